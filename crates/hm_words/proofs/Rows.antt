-- Rows to which one is added.
use Rattle.std.proofs.Common.{◌≡◌, ◌∙◌, ap, Bool, true, false, List, [], ◌∷◌, ◌++◌, Some, None, refl, cond, append-nil}
use Rattle.std.specs.List.{find, fold}
use Rattle.std.specs.Prelude.{◌||◌}
use Rattle.std.specs.Str.{bytes_eq}
use Rattle.clap.specs.Words.{Row, Rule, Text}
use Rattle.clap.specs.Faults.{defaults_fault, given_default_fault}
use Rattle.clap.specs.Kinds.{or_else}
use Rattle.clap.specs.Walk.{at_row, default_rows, has_row, is_empty, reading_by, with_default, without}

-- where no row has an id, what is missing joins at the end
pub at_missing : (id : Text) (change : Row → List Row) (missing rows : List Row) → has_row id rows
    ≡ false
    → at_row id change missing rows ≡ rows ++ missing
at_missing id change missing [] none = refl
at_missing id change missing (r ∷ rs) none =
    go (bytes_eq r.id id) none (at_missing id change missing rs)
  where
    go : (b : Bool) → (b || has_row id rs) ≡ false
        → (has_row id rs ≡ false → at_row id change missing rs ≡ rs ++ missing)
        → cond b (change r ++ rs) (r ∷ at_row id change missing rs) ≡ r ∷ (rs ++ missing)
    go true h rest = let bad : true ≡ false = h in cc
    go false h rest = ap (λ xs. r ∷ xs) (rest h)

-- and nothing goes
pub without_missing : (id : Text) (rows : List Row) → has_row id rows ≡ false → without id rows
    ≡ rows
without_missing id rows none = at_missing id (λ _. []) [] rows none ∙ append-nil rows

-- whether one of more rows has an id
pub has_row_push : (id : Text) (rows : List Row) (row : Row) → has_row id rows ≡ false
    → bytes_eq row.id id ≡ false → has_row id (rows ++ row ∷ []) ≡ false
has_row_push id [] row none other = ap (λ b. b || false) other
has_row_push id (r ∷ rs) row none other =
    go (bytes_eq r.id id) none (λ h. has_row_push id rs row h other)
  where
    go : (b : Bool) → (b || has_row id rs) ≡ false
        → (has_row id rs ≡ false → has_row id (rs ++ row ∷ []) ≡ false)
        → (b || has_row id (rs ++ row ∷ [])) ≡ false
    go true h rest = h
    go false h rest = rest h

-- the row that was added is found where no other has its id
pub find_pushed : (id : Text) (rows : List Row) (row : Row) → has_row id rows ≡ false
    → bytes_eq row.id id ≡ true
    → find (λ r. bytes_eq r.id id) (rows ++ row ∷ []) ≡ Some row
find_pushed id [] row none same = ap (λ b. cond b (Some row) None) same
find_pushed id (r ∷ rs) row none same =
    go (bytes_eq r.id id) none (λ h. find_pushed id rs row h same)
  where
    go : (b : Bool) → (b || has_row id rs) ≡ false
        → (has_row id rs ≡ false → find (λ r. bytes_eq r.id id) (rs ++ row ∷ []) ≡ Some row)
        → cond b (Some r) (find (λ r. bytes_eq r.id id) (rs ++ row ∷ [])) ≡ Some row
    go true h rest = let bad : true ≡ false = h in cc
    go false h rest = rest h

-- no rule has a default
abbrev pub NoDefaults : List Rule → Type 0
NoDefaults [] = Unit {0}
NoDefaults (rule ∷ rules) = (rule.defaults ≡ []) × NoDefaults rules

-- two ways to one end
either : {A : Type 0} (b : Bool) (x : A) → cond b x x ≡ x
either true x = refl
either false x = refl

-- so none is given
pub no_defaults : (rules : List Rule) (rows : List Row) → NoDefaults rules
    → fold with_default rows rules ≡ rows
no_defaults [] rows none = refl
no_defaults (rule ∷ rules) rows none =
    ap (λ rs. fold with_default rs rules)
    (ap (λ ds. cond (has_row rule.id rows) rows (default_rows rule.id (reading_by rule) ds rows))
    none.0 ∙ either (has_row rule.id rows) rows)
    ∙ no_defaults rules rows none.1

-- a test that holds where its second part does
or_true : (b : Bool) → (b || true) ≡ true
or_true true = refl
or_true false = refl

-- and none fails
pub no_default_fault : (rules : List Rule) (rows : List Row) → NoDefaults rules
    → defaults_fault rows rules ≡ []
unfolding defaults_fault
no_default_fault [] rows none = refl
no_default_fault (rule ∷ rules) rows none =
    ap (λ k. or_else k (defaults_fault (with_default rows rule) rules))
    (ap (λ ds. cond (has_row rule.id rows || is_empty ds) [] (given_default_fault rule ds)) none.0
    ∙ ap (λ b. cond b [] (given_default_fault rule [])) (or_true (has_row rule.id rows)))
    ∙ no_default_fault rules (with_default rows rule) none.1
