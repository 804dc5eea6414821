-- The layout of service contexts is lawful.
use Rattle.std.proofs.Common.{refl}
use Rattle.giop_cdr.specs.Layout.{IsLawful}
use Rattle.giop_cdr.specs.Reading.Exactness.{TakesOctets}
use Rattle.giop_cdr.proofs.LayoutLemmas.{sequence_is, tagged_is, tagged_takes}
use Rattle.giop_ior.specs.ServiceContext.{service_context, service_contexts}

service_context_is : IsLawful service_context
unfolding service_context
service_context_is = tagged_is _ _ _ (λ tag contents. refl) (λ tag contents. refl)

service_context_takes : TakesOctets service_context.spells
unfolding service_context
service_context_takes = tagged_takes _ _ _

pub service_contexts_are : IsLawful service_contexts
unfolding service_contexts
service_contexts_are = sequence_is service_context_takes service_context_is
