use Rattle.std.proofs.Common.{rules, ◌≡◌}
use Rattle.std.specs.Option.{option_map}
use Rattle.std.specs.List.{find}
use Rattle.std.proofs.lemmas.Iterator.{YieldsList-from_slice}
use Rattle.std.proofs.lemmas.Iterator.Search.{find_from_yields_List}
use borrow.Author.Tests.{tests}
use Rattle.giop_files.specs.Files.{is_general, is_of}
use Rattle.giop_files.proofs.FilesLemmas.{keys_alike, own_first, general_first}
use Rattle.giop_files.proofs.files.interfaces.own_of.Goals as goal

pub returns-in-Some : goal.returns-in-Some
returns-in-Some c =
    let all = c.args.offered.now in
    let key = c.args.key.now in
    let found : option_map (λ file. file.now) c.find.result ≡ find (is_of key) all
    = find_from_yields_List (is_of key) _ _ c.find.result c.find.ensures.ran (YieldsList-from_slice all cc) (λ x b q k. search (rules, tests, keys_alike)) in
    own_first all key c.find.result c.in-Some.own c.in-Some.is found

pub returns-in-None : goal.returns-in-None
returns-in-None c =
    let all = c.args.offered.now in
    let key = c.args.key.now in
    let found : option_map (λ file. file.now) c.find.result ≡ find (is_of key) all
    = find_from_yields_List (is_of key) _ _ c.find.result c.find.ensures.ran (YieldsList-from_slice all cc) (λ x b q k. search (rules, tests, keys_alike)) in
    let others : option_map (λ file. file.now) c.find-in-None.result ≡ find is_general all
    = find_from_yields_List is_general _ _ c.find-in-None.result c.find-in-None.ensures.ran (YieldsList-from_slice all cc) (λ x b q k. search (rules, tests)) in
    general_first all key c.find.result c.find-in-None.result c.in-None.is found others
