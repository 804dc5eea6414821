use Rattle.std.proofs.Common.{Some, [], ◌∷◌, ap, ◌∙◌}
use Rattle.std.specs.Option.{option_map}
use Rattle.giop_msg.specs.Fault.{fault, wire_kind_number}
use Rattle.giop_msg.specs.declared.fault.WireFault.{WireFault}
use Rattle.giop_msg.specs.declared.fault.WireKind.TheVariants.{BadMagic}
use Rattle.giop_msg.specs.declared.version.Version.TheVariants.{V12}
use Rattle.giop_calls.specs.ServerTable as server
use Rattle.giop_calls.specs.declared.fault.CallFault.TheVariants.{NotOpen}
use Rattle.giop_calls.specs.declared.server.entry.ServerEntry.TheVariants.{LocateAnswered}
use Rattle.giop_session.specs.declared.SessionFault.TheVariants.{Call as InCall, TooManyCalls, Wire}
use Rattle.laws_in_use.specs.Asking.{here}
use Rattle.laws_in_use.specs.Exchange.{ping}
use Rattle.laws_in_use.specs.Framed.{refusing}
use Rattle.laws_in_use.specs.Locating.{door, limits}
use Rattle.laws_in_use.specs.Worlds.{asked_for, unasked}
use Rattle.laws_in_use.proofs.AgreementRuns.{by_status, unasked_runs}
use Rattle.laws_in_use.proofs.agreement.what_two_ends_agree_on.Goals as goal

pub returns-clause-runs : goal.returns-clause-runs
returns-clause-runs c = unasked_runs

pub returns-clause-located : goal.returns-clause-located
returns-clause-located c = λ interface schedule told w run client_stands server_stands is.
    let agreed = c.two_ends_agree.ensures.agreed interface limits limits schedule told w run client_stands server_stands in
    let (said, answers, status, rest) = agreed.located 7 door here is in
    by_status (λ said. Some (LocateAnswered (Some door.target) said)) said status answers

pub returns-clause-bare : goal.returns-clause-bare
returns-clause-bare c = λ interface schedule told w run client_stands server_stands is.
    let agreed = c.two_ends_agree.ensures.agreed interface limits limits schedule told w run client_stands server_stands in
    let (said, answers, status, rest) = agreed.located 7 door (record here { rest = 9 ∷ [] }) is in absurd cc

pub returns-clause-replied : goal.returns-clause-replied
returns-clause-replied c = λ interface schedule told w run client_stands server_stands is.
    (c.two_ends_agree.ensures.agreed interface limits limits schedule told w run client_stands server_stands).replied 7 (ping V12) refusing is

pub returns-clause-pending : goal.returns-clause-pending
returns-clause-pending c = λ interface forms told w run client_stands server_stands client_sent server_sent stands.
    (c.two_ends_agree.ensures.agreed interface limits limits (asked_for forms) told w run client_stands
    server_stands).outcomes client_sent server_sent 9 ∙ ap (option_map server.outcome) stands

pub returns-clause-kept : goal.returns-clause-kept
returns-clause-kept c = λ interface told w run is.
    (c.two_ends_agree.ensures.fails interface limits limits unasked told w run).client (InCall 9 NotOpen) is

pub returns-clause-full : goal.returns-clause-full
returns-clause-full c = λ interface schedule told w run is.
    (c.two_ends_agree.ensures.fails interface limits limits schedule told w run).server TooManyCalls is

pub returns-clause-sound : goal.returns-clause-sound
returns-clause-sound c = λ interface schedule told w run is.
    let (large, begins) = (c.two_ends_agree.ensures.fails interface limits limits schedule told w run).client (Wire (fault 0 BadMagic)) is in
    let kinds = ap (λ (e : WireFault). wire_kind_number e.kind) large in absurd cc
