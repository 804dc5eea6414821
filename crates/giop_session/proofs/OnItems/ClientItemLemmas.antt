-- What an item leaves of a call at a client.
use Rattle.std.proofs.Common.{◌≡◌, true, false, if◌then◌else◌, sym, ap, subst, ◌∙◌}
use Rattle.giop_types.specs.declared.interfaces.interface.Interface.{Interface}
use Rattle.giop_msg.specs.Cut.{joined}
use Rattle.giop_mux.specs.Runs.{Happening}
use Rattle.giop_mux.specs.Runs.{Hears as IsTold, IsTaken as TakesOut}
use Rattle.giop_calls.specs.declared.client.entry.ClientEntry.{ClientEntry}
use Rattle.giop_calls.specs.declared.client.event.ClientEvent.{ClientEvent}
use Rattle.giop_calls.specs.declared.client.event.ClientEvent.TheVariants as event
use Rattle.giop_calls.specs.declared.client.heard.HeardReply.TheVariants as heard_as
use Rattle.giop_calls.specs.ClientTable.{client_step, is_closed, is_gathering}
use Rattle.giop_table.specs.CallTable.{Call}
use Rattle.giop_session.specs.Items.Carries.{Got, Bad, Begun, Rest, Cancel, Did, done_by}
use Rattle.giop_session.specs.Items.ClientCarries.{Known, begun, client_telling, entry_behind, received}
use Rattle.giop_end.specs.Hearing.ClientHears.{client_act}
use Rattle.giop_session.specs.Runs.Events.{Follows, Local, act_of}
use Rattle.giop_table.specs.Sending.{entry_of}
use Rattle.giop_session.proofs.OnItems.ItemLemmas.{ItemLeaves, entry_left, taken_out}
use Rattle.giop_session.proofs.OnHearing.ClientCancelLemmas.{Passes, behind, client_turn, ignored}
use Rattle.giop_session.proofs.OnHearing.ClientReplyLemmas.{read_as, series, told_in, unread_as}

-- an act of the client itself does what its rule's event does
did : (interface : Interface) (known : Known) (call after : Call ClientEntry) (act : Happening ClientEvent) (local : Local ClientEvent)
    → entry_of call.slot ≡ known.entry → done_by local ≡ act → Passes call (act_of local) → after ≡ behind call (act_of local)
    → entry_of after.slot ≡ entry_behind interface known (Did act)
did interface known call after act (IsTold planned) stands done ok is =
    entry_left client_step is_closed is_gathering call after planned ok is
    ∙ ap (λ entry. (client_step entry planned.event).entry) stands ∙ ap (λ act. entry_behind interface known (Did act)) done
did interface known call after act TakesOut stands done ok is =
    taken_out client_step is_closed is_gathering call after ok is ∙ ap (λ act. entry_behind interface known (Did act)) done

-- an item leaves of a call what is said, whatever events carry it
pub client_item_leaves : (interface : Interface)
    → ItemLeaves client_turn (client_act interface) (client_telling interface) (λ known call. entry_of call.slot ≡ known.entry)
client_item_leaves interface known call after (Got said) events stands (k, version, order, messages, e, are, spells) follows =
    series interface k version order messages false call after are (subst (λ l. Follows client_turn (client_act interface) call l after) e follows)
    ∙ ap (λ entry. received entry (told_in interface k version order entry (joined messages))) stands
    ∙ read_as interface k version order (joined messages) known.latest known.entry said spells
client_item_leaves interface known call after (Bad k version order octets) events stands (messages, e, are, same, none) follows =
    series interface k version order messages false call after are (subst (λ l. Follows client_turn (client_act interface) call l after) e follows)
    ∙ ap (λ entry. received entry (told_in interface k version order entry (joined messages))) stands
    ∙ ap (λ octets. received known.entry (told_in interface k version order known.entry octets)) same
    ∙ unread_as interface k version order octets known.latest known.entry
client_item_leaves interface known call after (Begun k) events stands (version, order, messages, e, are) follows =
    series interface k version order messages true call after are (subst (λ l. Follows client_turn (client_act interface) call l after) e follows)
    ∙ ap begun stands
client_item_leaves interface known call after (Rest ends) events stands (was, messages, e, are) follows =
    ignored interface messages ends was.0 call after (stands ∙ was.1) are
    (subst (λ l. Follows client_turn (client_act interface) call l after) e follows)
    ∙ ap (λ entry. if ends then (client_step entry (event.Last false heard_as.Unread)).entry else entry) (sym was.1)
client_item_leaves interface known call after Cancel events stands (m, is, e) follows = absurd is
client_item_leaves interface known call after (Did act) events stands (id, local, done, e) follows =
    let met = subst (λ l. Follows client_turn (client_act interface) call l after) e follows in
    did interface known call after act local stands done met.0 met.1
