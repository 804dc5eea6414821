use Rattle.std.proofs.Common.{rules, ◌≡◌, refl, not}
use Rattle.std.specs.Option.{option_map}
use Rattle.std.proofs.lemmas.Iterator.{YieldsList-from_slice}
use Rattle.std.proofs.lemmas.Iterator.Search.{find_from_yields_List}
use borrow.Author.Tests.{tests}
use Rattle.giop_files.specs.Files.{first_black, is_white}
use Rattle.giop_files.proofs.FilesLemmas.{begins_with}
use Rattle.giop_files.proofs.files.FileFront.is_list.Goals as goal

pub returns : goal.returns
returns c =
    let items = c.args.self.now.front.items in
    let found : option_map (λ octet. octet.now) c.find.result ≡ first_black items
    = find_from_yields_List (λ o. not (is_white o)) _ _ c.find.result c.find.ensures.ran (YieldsList-from_slice items cc) (λ x b q k. search (rules, tests)) in
    begins_with 91 c.find.result _ _ _ refl found c.eq.ensures
