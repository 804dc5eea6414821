-- What holds of every lawful table of fields.
use Rattle.giop_cdr.specs.Layout.{Layout, IsLawful}
use Rattle.giop_cdr.proofs.LayoutLemmas.{alone_of, back_of}
use Rattle.giop_msg.specs.Laws.{IsTable}

pub table_of : {A : Type 0} {layout : Layout A} → IsLawful layout → IsTable layout
table_of lawful = record {
  exact = lawful.exact;
  alone = alone_of lawful;
  fits = lawful.fitting;
  back = back_of lawful;
}
