-- Replies whose octets are worked by hand from 9.4.3, so that a wrong definition does not check: where a body begins in each
-- version, the numbers of the statuses (9.4.3.1) and of the completions (9.4.3.2).
use Rattle.std.proofs.Common.{◌≡◌, ℕ, pos, List, [], ◌∷◌, ◌++◌, None, refl}
use Rattle.giop_cdr.specs.declared.order.Order.TheVariants.{Big}
use Rattle.giop_cdr.specs.Ending.{ended, from_multiple_of_8, leads, made_of}
use Rattle.giop_cdr.specs.Layout.{number, signed, octets, text, such, field, gives, chosen, sequence, tagged}
use Rattle.giop_cdr.specs.Writing.Output.{number_out, signed_out, octets_out, string_out, sequence_out, items_out, padding_out}
use Rattle.giop_ior.specs.Ior.{Reference}
use Rattle.giop_ior.specs.ServiceContext.{service_context, service_contexts}
use Rattle.giop_types.specs.declared.interfaces.interface.Interface.{Interface}
use Rattle.giop_msg.specs.declared.messages.completion.Completion.{Completion}
use Rattle.giop_msg.specs.declared.messages.completion.Completion.TheVariants.{Yes, No, Maybe}
use Rattle.giop_msg.specs.declared.messages.reply.Reply.{Reply}
use Rattle.giop_msg.specs.declared.messages.reply_body.ReplyBody.TheVariants.{NoException, UserException, SystemException, Forward, ForwardPerm, NeedsAddressing}
use Rattle.giop_msg.specs.declared.version.Version.{Version}
use Rattle.giop_msg.specs.declared.version.Version.TheVariants.{V10, V11, V12}
use Rattle.giop_msg.specs.Messages.Body.{body_of}
use Rattle.giop_msg.specs.Messages.Outcome.{joined_into}
use Rattle.giop_msg.specs.Messages.Reply.{allowed, completion, reply, reply_body, status_of, system_exception}
use Rattle.giop_msg.specs.ReplyHead.{early_reply_head, reply_head, reply_head_1_2, reply_status}

abbrev octets4 : ℕ → ℕ → ℕ → ℕ → List ℕ
octets4 a b c d = a ∷ b ∷ c ∷ d ∷ []

-- the system exception `A`, minor code 5, to the request of id 7, with a context of one octet
abbrev excuse : Version → Completion → Reply
excuse version completed = record {
  version = version;
  id = 7;
  contexts = record { id = 9; octets = 0xAA ∷ [] } ∷ [];
  body = SystemException (0x41 ∷ []) 5 completed;
}

abbrev context_octets : List ℕ
context_octets = octets4 0 0 0 1 ++ octets4 0 0 0 9 ++ octets4 0 0 0 1 ++ 0xAA ∷ []

-- the exception, with the number of its completion
abbrev exception_octets : ℕ → List ℕ
exception_octets completed =
    octets4 0 0 0 2 ++ octets4 0x41 0 0 0 ++ octets4 0 0 0 5 ++ octets4 0 0 0 completed

-- in 1.2: the head ends at 33, and the body begins at 40
abbrev excuse_1_2 : ℕ → List ℕ
excuse_1_2 completed =
    octets4 0 0 0 7 ++ octets4 0 0 0 2 ++ context_octets ++ (0 ∷ 0 ∷ 0 ∷ octets4 0 0 0 0) ++ exception_octets completed

-- before 1.2: the head ends at 36, and the body begins there
abbrev early_excuse : ℕ → List ℕ
early_excuse completed =
    context_octets ++ (0 ∷ 0 ∷ 0 ∷ octets4 0 0 0 7) ++ octets4 0 0 0 2 ++ exception_octets completed

record AreReplies (interface : Interface) : Type 0 where
  pub in_1_2 : ((reply interface None V12).written (excuse V12 Yes) (joined_into Big)).octets ≡ excuse_1_2 0
  pub not_completed : ((reply interface None V12).written (excuse V12 No) (joined_into Big)).octets ≡ excuse_1_2 1
  pub in_1_1 : ((reply interface None V11).written (excuse V11 Maybe) (joined_into Big)).octets ≡ early_excuse 2
  pub in_1_0 : ((reply interface None V10).written (excuse V10 Yes) (joined_into Big)).octets ≡ early_excuse 0

replies : (interface : Interface) → AreReplies interface
unfolding reply leads made_of allowed body_of ended from_multiple_of_8 reply_body chosen system_exception completion reply_head reply_head_1_2
    early_reply_head reply_status service_contexts service_context number signed octets text such field gives sequence tagged
    number_out signed_out octets_out string_out sequence_out items_out padding_out
replies interface = record { in_1_2 = refl; not_completed = refl; in_1_1 = refl; in_1_0 = refl }

-- the reply statuses
record AreStatuses (ior : Reference) : Type 0 where
  pub no_exception : status_of (NoException []) ≡ 0
  pub user_exception : status_of (UserException [] []) ≡ 1
  pub system_exception : status_of (SystemException [] 0 Yes) ≡ 2
  pub forward : status_of (Forward ior) ≡ 3
  pub forward_perm : status_of (ForwardPerm ior) ≡ 4
  pub needs_addressing : status_of (NeedsAddressing (pos 0)) ≡ 5

statuses : (ior : Reference) → AreStatuses ior
statuses ior = record {
  no_exception = refl;
  user_exception = refl;
  system_exception = refl;
  forward = refl;
  forward_perm = refl;
  needs_addressing = refl;
}
