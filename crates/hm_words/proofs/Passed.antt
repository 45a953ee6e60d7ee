-- What a parse found for a name is what the argument with that name takes.
use Rattle.std.proofs.Common.{zero, suc, ◌≡◌, ◌∙◌, ◌<◌, ◌≤◌, ap, ℕ, Bool, true, false, not, List, [], ◌∷◌, map, length, Option, Some, None, is_some, refl, sym, subst, inl, inr, arith}
use Rattle.std.specs.List.{All, find, slice_index_or}
use Rattle.std.specs.Option.{option_map, option_map_or}
use Rattle.std.specs.Str.{bytes_eq}
use Rattle.std.specs.Prelude.{◌&&◌, IfSome, option_and_then, slice_get, unwrap_or}
use Rattle.std.specs.Borrow.{Bor}
use Rattle.std.proofs.lemmas.Slice.Eq.{bytes_eq-Decides}
use Rattle.clap.specs.Words.{Accepts, App, IsUnsignedIn, Row, Rule, Text, app_of, args_of, built, found_of, groups_of, one_of, one_text, matched_of, read_as, reading_of, rows_of, rule_of}
use Rattle.clap.specs.Facts.{AllowsNone, Entry, EntryPasses, HasReading, IsCountArg, PassesArg, explicit_source, parser_of, parser_of_value, unwrap_or_range}
use Rattle.clap.specs.Takes.{is_given}
use Rattle.clap.specs.Walk.{action_of, is_empty, is_simple_arg, row_of}
use Rattle.clap.specs.declared.builder.action.ArgAction.TheVariants.{Count}
use Rattle.clap.specs.declared.builder.arg.Arg.{Arg}
use Rattle.clap.specs.declared.builder.value_parser.Reading.{Reading}
use Rattle.clap.specs.declared.builder.value_parser.Reading.TheVariants as reading
use Rattle.clap.specs.declared.builder.value_parser.ValueParser.{ValueParser}
use Rattle.clap.specs.declared.builder.value_parser.ValueParser.TheVariants.{Unsigned}
use Rattle.clap.specs.declared.parser.matches.ArgMatches.{ArgMatches}
use Rattle.clap.specs.declared.parser.matches.MatchedArg.{MatchedArg}
use Rattle.clap.proofs.CallerLemmas.{entry_by_id}
use Rattle.clap.proofs.SimpleLemmas.{plain_fields}
use Rattle.clap.proofs.WalkLemmas.{both, find_row, one_text-rows}
use Rattle.hm_words.specs.Reading.{HasNumber, IsParsedBy}

-- whatever rule has the name is so
abbrev pub EachNamed : Text → (Rule → Type 0) → List Rule → Type 0
EachNamed name P [] = Unit {0}
EachNamed name P (rule ∷ rules) = (bytes_eq rule.id name ≡ true → P rule) × EachNamed name P rules

-- so is the rule of whatever argument
arg_named : (name : Text) (P : Rule → Type 0) (xs : List Arg) → EachNamed name P (map rule_of xs)
    → (k : ℕ) (d : Arg) → k < length xs → bytes_eq (slice_index_or xs k d).id.now name ≡ true
    → P (rule_of (slice_index_or xs k d))
arg_named name P [] each k d lt same = absurd (omega arith)
arg_named name P (x ∷ xs) each zero d lt same = each.0 same
arg_named name P (x ∷ xs) each (suc k) d lt same = arg_named name P xs each.1 k d (omega arith) same

-- what holds of a command, and of the same as built, holds of the command of a parse
of_command : (P : App → Type 0) (command : App) (m : ArgMatches) (p : IsParsedBy command m)
    → P command → P (built command) → P (app_of p.by)
of_command P command m p before after =
    elim p.is [ inl same ↦ subst P (sym same) before | inr made ↦ subst P (sym made) after ]

-- a command that is plain, before and after it is built
pub record IsPlainApp (command : App) : Type 0 where
  pub before : command.top.is_plain ≡ true
  pub after : (built command).top.is_plain ≡ true

no_groups : (command : App) (m : ArgMatches) (p : IsParsedBy command m) → IsPlainApp command
    → groups_of p.by ≡ []
no_groups command m p plain =
    (plain_fields p.by (of_command (λ (a : App). a.top.is_plain ≡ true) command m p plain.before
    plain.after)).groups

-- an entry of a name is no group's
no_group : (command : App) (m : ArgMatches) (p : IsParsedBy command m) (e : Entry)
    → IsPlainApp command → (e.0.now ≡ [] → ⊥) → EntryPasses p.by e
    → e.1.is_group ≡ true → ⊥
no_group command m p e plain named pass g = elim (pass.3 g) [
  | inl empty ↦ named empty
  | inr lots ↦ let bad : 0 < 0 = rw (no_groups command m p plain) at lots in absurd (omega arith)
]

module _ (command : App) (m : ArgMatches) (p : IsParsedBy command m) (name : Text)
    (P : Rule → Type 0)
    (before : EachNamed name P command.top.rules)
    (after : EachNamed name P (built command).top.rules) where
  -- whatever argument of the command has the name is so
  named_is : (j : ℕ) (x : Arg) → j < length (args_of p.by) → slice_index_or (args_of p.by) j x ≡ x
      → bytes_eq x.id.now name ≡ true → P (rule_of x)
  named_is j x high at same =
      let each : EachNamed name P (map rule_of (args_of p.by)) =
      of_command (λ (a : App). EachNamed name P a.top.rules) command m p before after in
      let here : bytes_eq (slice_index_or (args_of p.by) j x).id.now name ≡ true =
      subst (λ (a : Arg). bytes_eq a.id.now name ≡ true) (sym at) same in
      subst (λ (a : Arg). P (rule_of a)) at (arg_named name P (args_of p.by) each j x high here)

-- ---- numbers

-- the rule takes unsigned numbers from the least to the most
abbrev pub IsNumberRule : ℕ → ℕ → Rule → Type 0
IsNumberRule least most rule = rule.parser ≡ Some (Unsigned least most)

-- the first of values that all pass
first_passes : (P : Text → Type 0) (how : Reading) (vs : List (Bor Text)) → All (λ v. P v.now) vs
    → how ≡ reading.AsWritten
    → (t : Text) → option_map (λ s. read_as how s.now) (slice_get vs 0) ≡ Some t → P t
first_passes P how [] all is t found = let bad : None ≡ Some t = found in cc
first_passes P how (v ∷ vs) all is t found =
    let same : Some (read_as how v.now) ≡ Some t = found in
    let read : read_as how v.now ≡ t =
    ap (λ (o : Option Text). unwrap_or o (read_as how v.now)) same in
    let plain : read_as how v.now ≡ v.now = ap (λ (r : Reading). read_as r v.now) is in
    subst P (sym plain ∙ read) (all 0 v (omega arith))

-- the argument of a number takes such words as are in its range
takes_number : (x : Arg) (least most : ℕ) (t : Text) → x.value_parser ≡ Some (Unsigned least most)
    → Accepts x.ignore_case (parser_of x) t → IsUnsignedIn least most t
takes_number x least most t parser accepted =
    subst (λ (q : ValueParser). Accepts x.ignore_case q t) (ap parser_of_value parser) accepted

-- and its words are read as they are written
reads_as_written : (x : Arg) (least most : ℕ) (how : Reading) → x.value_parser
    ≡ Some (Unsigned least most)
    → reading_of (parser_of x) ≡ how → how ≡ reading.AsWritten
reads_as_written x least most how parser is = sym is ∙ ap reading_of (ap parser_of_value parser)

module _ (command : App) (m : ArgMatches) (p : IsParsedBy command m) (name : Text) (least most : ℕ)
    (plain : IsPlainApp command) (named : name ≡ [] → ⊥)
    (before : EachNamed name (IsNumberRule least most) command.top.rules)
    (after : EachNamed name (IsNumberRule least most) (built command).top.rules) where
  -- a value of an argument of this name is in the range
  value_passes : (t : Text) → PassesArg p.by name t → IsUnsignedIn least most t
  value_passes t pass = takes_number pass.1 least most t
      (named_is command m p name (IsNumberRule least most) before after pass.0 pass.1 pass.2 pass.3
      pass.4.0) pass.4.1

  -- and is read as it is written
  value_reads : (how : Reading) → HasReading p.by name how → how ≡ reading.AsWritten
  value_reads how any = reads_as_written any.1 least most how
      (named_is command m p name (IsNumberRule least most) before after any.0 any.1 any.2 any.3
      any.4.0) any.4.1

  -- so is the first value of an entry of this name
  entry_passes : (e : Entry) (t : Text) → e.0.now ≡ name → EntryPasses p.by e
      → option_map (λ s. read_as e.1.reading s.now) (slice_get e.1.vals.items 0) ≡ Some t
      → IsUnsignedIn least most t
  entry_passes e t key pass found =
      let group = no_group command m p e plain (λ empty. named (sym key ∙ empty)) pass in
      let all : All (λ v. PassesArg p.by name v.now) e.1.vals.items = elim pass.0 [
        | inl g ↦ absurd (group g)
        | inr vals ↦ subst (λ (w : Text). All (λ v. PassesArg p.by w v.now) e.1.vals.items) key vals
      ] in
      let written : e.1.reading ≡ reading.AsWritten = elim pass.4 [
        | inl g ↦ absurd (group g)
        | inr h ↦ value_reads e.1.reading
            (subst (λ (w : Text). HasReading p.by w e.1.reading) key h)
      ] in
      value_passes t (first_passes (PassesArg p.by name) e.1.reading e.1.vals.items all written t
      found)

  -- so is the text that is read of this name
  text_passes : (t : Text) → one_text (found_of m) name ≡ Some t → IsUnsignedIn least most t
  text_passes t found = go (matched_of (found_of m) name) refl found
    where
      go : (o : Option MatchedArg) → matched_of (found_of m) name ≡ o
          → option_and_then (λ (a : MatchedArg). option_map (λ s. read_as a.reading s.now)
          (slice_get a.vals.items 0)) o ≡ Some t
          → IsUnsignedIn least most t
      go None e h = let bad : None ≡ Some t = h in cc
      go (Some a) e h =
          let got = entry_by_id (EntryPasses p.by)
          (found_of m).entries.items name a p.parsed.values e in
          entry_passes got.0 t ((bytes_eq-Decides got.0.0.now name).0 got.2) got.3
          (subst (λ (x : MatchedArg). option_map (λ s. read_as x.reading s.now)
          (slice_get x.vals.items 0) ≡ Some t) (sym got.1) h)

  -- so a word found for this name is in the range
  pub number_passes : HasNumber name least most (rows_of (found_of m))
  number_passes = go (one_of name (rows_of (found_of m))) (one_text-rows (found_of m) name)
    where
      go : (o : Option Text) → one_text (found_of m) name ≡ o → IfSome o (IsUnsignedIn least most)
      go None e = tt
      go (Some t) e = text_passes t e

-- ---- words that have to be there

-- the rule counts nothing, and each use of it has a value
pub record IsWordRule (rule : Rule) : Type 0 where
  pub counts : action_of rule ≡ Count → ⊥
  pub some : 1 ≤ (unwrap_or_range rule.range).start_inclusive
  pub simple : rule.is_simple ≡ true

-- the fourth of tests that all hold
fourth : (a b c d e : Bool) → (a && (b && (c && (d && e)))) ≡ true → d ≡ true
fourth a b c d e h = (both d e
    (both c (d && e) (both b (c && (d && e)) (both a (b && (c && (d && e))) h).1).1).1).0

-- a simple argument cuts no value
no_delimiter : (x : Arg) → is_simple_arg x ≡ true → is_some x.val_delim ≡ true → ⊥
no_delimiter x simple has =
    let kept : not (is_some x.val_delim) ≡ true =
    fourth (is_empty x.overrides.items) (is_empty x.default_vals_ifs.items)
    (is_empty x.groups.items) (not (is_some x.val_delim))
    (not (is_some x.terminator) &&
    (not x.allow_hyphen_values &&
    (not x.allow_negative_numbers && (not x.require_equals && (not x.last && not x.global)))))
    simple in
    let bad : not true ≡ true = ap not (sym has) ∙ kept in cc

module _ (command : App) (m : ArgMatches) (p : IsParsedBy command m) (name : Text)
    (plain : IsPlainApp command) (named : name ≡ [] → ⊥)
    (before : EachNamed name IsWordRule command.top.rules)
    (after : EachNamed name IsWordRule (built command).top.rules) where
  -- an argument of this name is not one that counts
  counts_nothing : IsCountArg p.by name → ⊥
  counts_nothing any = (named_is command m p name IsWordRule before after any.0 any.1 any.2 any.3
      any.4.0).counts any.4.1

  -- nor one that may have no value
  allows_some : AllowsNone p.by name → ⊥
  allows_some any =
      let rule = named_is command m p name IsWordRule before after any.0 any.1 any.2 any.3 any.4.0
      in
      elim any.4.1 [
        | inl none ↦ let some = rule.some in absurd (omega arith)
        | inr cut ↦ no_delimiter any.1 rule.simple cut
      ]

  -- so its entry has a value
  entry_filled : (e : Entry) → e.0.now ≡ name → EntryPasses p.by e → 0 < length e.1.vals.items
  entry_filled e key pass = elim pass.1 [
    | inl g ↦ absurd (no_group command m p e plain (λ empty. named (sym key ∙ empty)) pass g.0)
    | inr (inl some) ↦ some
    | inr (inr (inl counted)) ↦ absurd (counts_nothing (subst (IsCountArg p.by) key counted.1))
    | inr (inr (inr none)) ↦ absurd (allows_some (subst (AllowsNone p.by) key none))
  ]

  -- the entry of a name that was given, with a value
  pub given_filled : is_given name (rows_of (found_of m)) ≡ true
      → (a : MatchedArg) × (matched_of (found_of m) name ≡ Some a) × (0 < length a.vals.items)
  given_filled given = go (find (λ (e : Entry). bytes_eq e.0.now name) (found_of m).entries.items)
      refl
      (sym (ap (λ o. option_map_or (λ (r : Row). explicit_source r.source) o false)
      (find_row (found_of m).entries.items name)) ∙ given)
    where
      go : (o : Option Entry)
          → find (λ (e : Entry). bytes_eq e.0.now name) (found_of m).entries.items ≡ o
          → option_map_or (λ (r : Row). explicit_source r.source) (option_map row_of o) false ≡ true
          → (a : MatchedArg) × (matched_of (found_of m) name ≡ Some a) × (0 < length a.vals.items)
      go None e h = let bad : false ≡ true = h in cc
      go (Some x) e h =
          let found : matched_of (found_of m) name ≡ Some x.1 =
          ap (option_map (λ (y : Entry). y.1)) e in
          let got = entry_by_id (EntryPasses p.by)
          (found_of m).entries.items name x.1 p.parsed.values found in (
            x.1,
            found,
            subst (λ (y : MatchedArg). 0 < length y.vals.items) got.1
                (entry_filled got.0 ((bytes_eq-Decides got.0.0.now name).0 got.2) got.3),
          )
