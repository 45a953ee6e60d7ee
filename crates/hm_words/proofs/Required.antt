-- What an accepted command requires was given.
use Rattle.std.proofs.Common.{◌≡◌, Bool, true, false, not, List, [], ◌∷◌, length, is_some, refl, codes, arith}
use Rattle.std.specs.Prelude.{◌==◌, ◌&&◌, ◌||◌}
use Rattle.std.proofs.lemmas.Bool.{ne_eqb}
use Rattle.clap.specs.Words.{App, Row, Shape, Text, built, fault_of, matches_of}
use Rattle.clap.specs.Faults.{built_fault, check_fault, defaults_fault, entered_fault, settle_fault, walk_fault}
use Rattle.clap.specs.Kinds.{Kinds, check_kinds, or_else}
use Rattle.clap.specs.Simple.{entered, names_of}
use Rattle.clap.specs.Takes.{is_given}
use Rattle.clap.specs.Walk.{finished, is_empty, nothing_held, rows_after, settled, stop_after, walk, walk_from}
use Rattle.hm_words.specs.Commands.{generate_command, replay_command}
use Rattle.hm_words.specs.Asked.{accepts}

-- no kind is no kind of the second either
last_none : (a b : Kinds) → or_else a b ≡ [] → b ≡ []
last_none [] b e = e
last_none (k ∷ ks) b e = cc

none_of_empty : (k : Kinds) → is_empty k ≡ true → k ≡ []
none_of_empty [] e = refl
none_of_empty (k ∷ ks) e = let some : (length (k ∷ ks) == 0) ≡ false =
    ne_eqb _ _ (λ z. omega arith) in cc

-- the last check of a command finds nothing where the command does not
last_check : (a : App) (words : List Text) → built_fault a nothing_held words ≡ []
    → check_fault a.top (rows_after a.top.rules (names_of a) words)
    (is_some (entered a (stop_after a.top.rules (names_of a) words))) ≡ []
last_check a words clean =
    let end = walk a.top.rules (names_of a) nothing_held words in
    let checks = check_fault a.top (finished a.top.rules end.held)
    (is_some (entered a end.stopped)) in
    let defaults = defaults_fault (settled a.top.rules end.held).rows a.top.rules in
    let settles = settle_fault a.top.rules a.top.args_override_self end.held in
    let enters = entered_fault a end.stopped in
    last_none defaults checks
    (last_none settles (or_else defaults checks)
    (last_none enters (or_else settles (or_else defaults checks))
    (last_none (walk_fault a.top (names_of a) (walk_from nothing_held) words)
    (or_else enters (or_else settles (or_else defaults checks))) clean)))

-- whether a subcommand was entered, of which there is none
abbrev entered_by : App → List Text → Bool
entered_by a words = is_some (entered a (stop_after a.top.rules (names_of a) words))

abbrev replay_shape : Shape
replay_shape = (built replay_command).top

abbrev generate_shape : Shape
generate_shape = (built generate_command).top

-- the last check of `replay` finds the files
replay_checked : (entered : Bool) (rows : List Row) → check_fault replay_shape rows entered ≡ []
    → is_given (codes "FILE") rows ≡ true
replay_checked entered rows none = go entered (is_given (codes "FILE") rows) none
  where
    go : (b g : Bool) → check_kinds (not b && false) (not b && false)
        (not false && (not g || false)) ≡ [] → g ≡ true
    go b true e = refl
    go true false e = cc
    go false false e = cc

-- and that of `generate` both numbers
generate_checked : (entered : Bool) (rows : List Row) → check_fault generate_shape rows entered ≡ []
    → (is_given (codes "NUMBER") rows ≡ true) × (is_given (codes "COUNT") rows ≡ true)
generate_checked entered rows none =
    go entered (is_given (codes "NUMBER") rows) (is_given (codes "COUNT") rows) none
  where
    go : (b g h : Bool) → check_kinds (not b && false) (not b && false)
        (not false && (not g || (not h || false))) ≡ [] → (g ≡ true) × (h ≡ true)
    go b true true e = (refl, refl)
    go true false h e = cc
    go false false h e = cc
    go true true false e = cc
    go false true false e = cc

-- so the files are given where `replay` is accepted
pub replay_given : (words : List Text) → accepts replay_command words ≡ true
    → is_given (codes "FILE") (matches_of replay_command words) ≡ true
replay_given words accepted = replay_checked (entered_by (built replay_command) words)
    (matches_of replay_command words)
    (last_check (built replay_command) words
    (none_of_empty (fault_of replay_command words) accepted))

pub generate_given : (words : List Text) → accepts generate_command words ≡ true
    → (is_given (codes "NUMBER") (matches_of generate_command words) ≡ true) ×
    (is_given (codes "COUNT") (matches_of generate_command words) ≡ true)
generate_given words accepted = generate_checked (entered_by (built generate_command) words)
    (matches_of generate_command words)
    (last_check (built generate_command) words
    (none_of_empty (fault_of generate_command words) accepted))
