-- The plain store: what each object holds, by its name. It knows nothing of versions.
use Rattle.std.specs.Prelude.{◌≡◌, ℕ, ◌<◌, Bool, ◌==◌, ◌&&◌, List, [], ◌∷◌, length, Option, Some, None, IsSome, IfSome, All, count_by, if◌then◌else◌}
use Rattle.hm_model.specs.declared.object.Name.{Name}
use Rattle.hm_model.specs.declared.object.Contents.{Contents}

-- an object has references, each a name or none
abbrev pub Refs : Type 0
Refs = List (Option Name)

-- and numbers
abbrev pub Numbers : Type 0
Numbers = List ℕ

-- all objects have one size: four references and ten numbers
pub record IsSized (refs : Refs) (numbers : Numbers) : Type 0 where
  pub four : length refs ≡ 4
  pub ten : length numbers ≡ 10

-- a plain store is a finite map from names to contents, in order of making
abbrev pub PlainStore : Type 0
PlainStore = List (Name × Contents)

-- two names are the same where their makers are, and their counts
abbrev pub is_same : Name → Name → Bool
is_same a b = (a.maker == b.maker) && (a.count == b.count)

-- a store has contents under a name, or none
abbrev pub contents_of : PlainStore → Name → Option Contents
contents_of [] n = None
contents_of (p ∷ s) n = if is_same p.0 n then Some p.1 else contents_of s n

-- a name is in a store that has contents under it
abbrev pub IsThere : PlainStore → Name → Type 0
IsThere s n = IsSome (contents_of s n)

-- references are in a store where each is none, or a name in it
abbrev pub AreThere : PlainStore → Refs → Type 0
AreThere s refs = All (λ name. IfSome name (IsThere s)) refs

-- a caller has made so many objects of a store
abbrev pub made_count : ℕ → PlainStore → ℕ
made_count q s = count_by (λ p. p.0.maker == q) s

-- a store may be changed in what one of its objects holds
abbrev pub with_changed : (Contents → Contents) → Name → PlainStore → PlainStore
with_changed f n [] = []
with_changed f n (p ∷ s) = if is_same p.0 n then (p.0, f p.1) ∷ s else p ∷ with_changed f n s

-- a store is well made where each maker's names are numbered from 0, and objects are sized and name
-- one another
pub record IsWellMade (s : PlainStore) : Type 0 where
  pub numbered : (n : Name) (x : Contents)
      → contents_of s n ≡ Some x → n.count < made_count n.maker s
  pub sized : (n : Name) (x : Contents) → contents_of s n ≡ Some x → IsSized x.refs x.numbers
  pub closed : (n : Name) (x : Contents) → contents_of s n ≡ Some x → AreThere s x.refs
