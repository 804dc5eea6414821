use Rattle.giop_ior_text.proofs.IorTextLemmas.{octets_written}
use Rattle.giop_json.proofs.ReferenceBack.{text_says, text_back}
use Rattle.giop_json.proofs.laws.ior_texts.written_ior_texts_are_read_back.Goals as goal

pub returns-clause-octets : goal.returns-clause-octets
returns-clause-octets c = octets_written

pub returns-clause-written : goal.returns-clause-written
returns-clause-written c = text_says

pub returns-clause-again : goal.returns-clause-again
returns-clause-again c = text_back
