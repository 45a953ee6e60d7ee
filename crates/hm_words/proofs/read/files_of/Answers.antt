-- The files are the words found for them.
use Rattle.std.proofs.Common.{◌≡◌, ◌∙◌, ap, refl, List, [], ◌++◌, map, Option, Some, None, codes}
use Rattle.std.specs.Prelude.{option_map, unwrap_or}
use Rattle.std.specs.Borrow.{Bor}
use Rattle.clap.specs.Words.{Text, found_of}
use Rattle.clap.proofs.WalkLemmas.{raw_values-rows}
use Rattle.hm_words.proofs.read.files_of.Goals as goal

abbrev texts_in : Bor (List (Bor Text)) → List Text
texts_in s = map (λ v. v.now) s.now

-- what stands where there are no values
or_none : (o : Option (Bor (List (Bor Text)))) (none : Bor (List (Bor Text))) → none.now ≡ []
    → texts_in (unwrap_or o none) ≡ unwrap_or (option_map texts_in o) []
or_none None none is = ap (map (λ v. v.now)) is
or_none (Some s) none is = refl

pub returns : goal.returns
returns c =
    let items = c.in_ok-extend_from_slice.ensures.items
    ∙ ap (λ xs. xs ++ c.unwrap_or.result.now) c.new-files.ensures.items in
    let none = ap texts_in c.unwrap_or.ensures ∙ or_none c.get_strs.result _ refl in
    let found = ap (λ o. unwrap_or o [])
    (c.get_strs.ensures ∙ raw_values-rows (found_of c.args.matches.now) (codes "FILE")) in
    ap (map (λ v. v.now)) items ∙ (none ∙ found)
