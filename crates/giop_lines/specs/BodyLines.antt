-- The lines that `dump` writes of bodies, without their newlines, and why a Request isn't decoded.
use Rattle.std.specs.Prelude.{ℕ, List, ◌++◌, codes}
use Rattle.std.specs.Fmt.{decimal}
use Rattle.giop_frag.specs.declared.fault.GatherFault.{GatherFault}
use Rattle.giop_frag.specs.Faults.{gather_fault_name, gather_fault_number}
use Rattle.giop_msg.specs.declared.kind.Kind.{Kind}
use Rattle.giop_msg.specs.declared.messages.request_fault.RequestFault.{RequestFault}
use Rattle.giop_msg.specs.declared.messages.request_fault.RequestFault.TheVariants.{Header, Operation, Body}
use Rattle.giop_msg.specs.Kind.{kind_name}
use Rattle.giop_lines.specs.Lines.{cdr_fault_text}

-- the ins of a Request, as a JSON list
abbrev pub ins_line : List ℕ → List ℕ
ins_line ins = codes "  ins " ++ ins

-- why a Request or a LocateRequest can't be decoded: where the fault is, and which
abbrev pub request_fault_text : RequestFault → List ℕ
request_fault_text (Header e) = codes "header " ++ cdr_fault_text e
request_fault_text Operation = codes "operation"
request_fault_text (Body e) = codes "body " ++ cdr_fault_text e

-- why a Request can't be decoded: where the fault is, and which
abbrev pub undecoded_line : RequestFault → List ℕ
undecoded_line e = codes "  undecoded " ++ request_fault_text e

-- a message that was joined of its pieces, and how many octets it has: joined KIND size SIZE
abbrev pub joined_line : Kind → ℕ → List ℕ
joined_line kind size =
    codes "  joined " ++ (kind_name kind ++ (codes " size " ++ decimal size))

-- why a piece isn't joined: unjoined NUMBER NAME
abbrev pub unjoined_line : GatherFault → List ℕ
unjoined_line e =
    codes "  unjoined " ++ (decimal (gather_fault_number e) ++ (codes " " ++ gather_fault_name e))
