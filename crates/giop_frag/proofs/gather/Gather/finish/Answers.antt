use Rattle.std.proofs.Common.{◌≡◌, None, sym, ap, ◌∙◌, inl}
use Rattle.giop_ids.specs.Runs.{refusal_of, within}
use Rattle.giop_ids.proofs.Puts.{put_absent}
use Rattle.giop_frag.specs.Gathered.{Lists}
use Rattle.giop_frag.specs.Runs.{handed_out}
use Rattle.giop_frag.proofs.gather.Gather.finish.Goals as goal

-- taking out an id that isn't there changes nothing
unchanged : (c : goal.In-None) → c.take.new.self ≡ c.args.self.now
unchanged c =
    let none = sym c.take.ensures.value ∙ c.in-None.is in
    c.take.ensures.ok ∙ ap (λ (m : Lists). record c.args.self.now { lists = m }) (put_absent _ c.args.id none)

pub returns-in-None-clause-kept : goal.returns-in-None-clause-kept
returns-in-None-clause-kept c = unchanged c

pub returns-in-None-clause-exact : goal.returns-in-None-clause-exact
returns-in-None-clause-exact c =
    let none = sym c.take.ensures.value ∙ c.in-None.is in
    record {
      answer = tt;
      refusal = inl (ap (λ held. refusal_of (within None (handed_out held))) none);
      leaves = ap (λ g. g.lists) (unchanged c);
    }
