-- How texts that are refused are reported.
use Rattle.giop_ior_text.specs.declared.ior_text_fault.IorTextFault.{IorTextFault}
use Rattle.giop_ior_text.specs.declared.ior_text_fault.IorTextFault.TheVariants.{Cdr}
use Rattle.giop_lines.specs.declared.refusal.RefusalLine.{RefusalLine}
use Rattle.giop_lines.specs.declared.refusal.RefusalLine.TheVariants as refusal

-- how a refused text of a reference is reported: a fault of its octets as that
abbrev pub ior_refusal : IorTextFault → RefusalLine
ior_refusal (Cdr e) = refusal.Octets e
ior_refusal e = refusal.IorText e
