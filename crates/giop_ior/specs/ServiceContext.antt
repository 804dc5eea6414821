-- Service contexts on the wire (CORBA 3.3 Part 2, 7.7).
use Rattle.std.specs.Prelude.{List}
use Rattle.giop_cdr.specs.Layout.{Layout, sequence, tagged}
use Rattle.giop_ior.specs.declared.references.service_context.ServiceContext.{ServiceContext}

-- a service context: an unsigned long id and a sequence of octets
unfoldable pub service_context : Layout ServiceContext
service_context =
    tagged (λ context. context.id) (λ context. context.octets)
    (λ id contents. record { id = id; octets = contents })

-- those of a message: a sequence of them
unfoldable pub service_contexts : Layout (List ServiceContext)
service_contexts = sequence service_context
