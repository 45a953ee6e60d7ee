-- A list that stands in a store stands in every later one.
use Rattle.std.proofs.Common.{◌≡◌, ℕ, List, length, [], ◌∷◌, Option, Some, None, IsSome, IsTrue, ◌↔◌, Bool, false, refl, sym, ap, ◌∙◌, subst, arith}
use Rattle.hm_model.specs.declared.object.Name.{Name}
use Rattle.hm_model.specs.declared.object.Contents.{Contents}
use Rattle.hm_model.specs.declared.entry.Entry.{Entry}
use Rattle.hm_model.specs.Store.{PlainStore, contents_of}
use Rattle.hm_model.specs.History.{store_of}
use Rattle.hm_model.specs.Lawful.{NodeLaws, KeepsNodes}
use Rattle.hm_model.specs.Sight.{Sight, present, name_at, Rests, Goes}
use Rattle.hm_model.proofs.Nodes.{keeps_nodes_goes}
use Rattle.hm_list.specs.declared.key.Pair.{Pair}
use Rattle.hm_list.specs.Cells.{numbers_of, cell_of, pair_in, IsList}

-- a cell has the pair in it that it was made of
pub pair_in_numbers : (p : Pair) → length p.load ≡ 6 → pair_in (numbers_of p) ≡ p
pair_in_numbers p six = ap (λ (l : List ℕ). record { key = p.key; load = l }) (six_of p.load six)
  where
    six_of : (l : List ℕ) → length l ≡ 6 → (pair_in (numbers_of record { key = p.key; load = l })).load ≡ l
    six_of (a ∷ b ∷ c ∷ d ∷ e ∷ f ∷ []) h = refl
    six_of [] h = absurd (omega arith)
    six_of (a ∷ []) h = absurd (omega arith)
    six_of (a ∷ b ∷ []) h = absurd (omega arith)
    six_of (a ∷ b ∷ c ∷ []) h = absurd (omega arith)
    six_of (a ∷ b ∷ c ∷ d ∷ []) h = absurd (omega arith)
    six_of (a ∷ b ∷ c ∷ d ∷ e ∷ []) h = absurd (omega arith)
    six_of (a ∷ b ∷ c ∷ d ∷ e ∷ f ∷ g ∷ l) h = absurd (omega arith)

-- a test that is false finds no name
pub unset_where : (o : Option Name) (b : Bool) → (IsTrue b ↔ IsSome o) → b ≡ false → o ≡ None
unset_where None b h e = refl
unset_where (Some n) b h e = let t : IsTrue b = h.1 refl in absurd (cc)

module _ (node : PlainStore → Name → Type 0) where
  -- a list stays one where nodes are kept
  pub list_kept : (s t : PlainStore) → KeepsNodes node s t → (o : Option Name) (ps : List Pair) → IsList node s o ps
      → IsList node t o ps
  list_kept s t k o [] h = h
  list_kept s t k o (p ∷ ps) h = (
    h.0,
    h.1,
    h.2,
    k.nodes h.0 (cell_of p h.1) h.3 h.4,
    k.contents h.0 (cell_of p h.1) h.3 h.4,
    h.5,
    list_kept s t k h.1 ps h.6,
  )

  -- what the first cell holds has the first pair in it, and names the rest
  pub first_taken : (s t : PlainStore) → KeepsNodes node s t → (o o' : Option Name) (n : Name) (x : Contents)
      → o ≡ Some n → contents_of t n ≡ Some x → o' ≡ name_at x.refs 0
      → (ps : List Pair) → IsList node s o ps → (rest : List Pair) × (ps ≡ pair_in x.numbers ∷ rest) × IsList node t o' rest
  first_taken s t k o o' n x is there next [] h = absurd (cc)
  first_taken s t k o o' n x is there next (q ∷ qs) h =
      let now = k.contents h.0 (cell_of q h.1) h.3 h.4 in
      let same : n ≡ h.0 = cc (h.2) in
      let holds : x ≡ cell_of q h.1 = cc (same, now) in
      let read : pair_in x.numbers ≡ q = ap (λ (y : Contents). pair_in y.numbers) holds ∙ pair_in_numbers q h.5 in
      let on : o' ≡ h.1 = next ∙ ap (λ (y : Contents). name_at y.refs 0) holds in
      (qs, ap (λ (r : Pair). r ∷ qs) (sym read), subst (λ (w : Option Name). IsList node t w qs) (sym on) (list_kept s t k h.1 qs h.6))

  -- a list at no name is empty
  pub list_none : (s : PlainStore) (o : Option Name) (ps : List Pair) → o ≡ None → IsList node s o ps → ps ≡ []
  list_none s o [] e h = refl
  list_none s o (p ∷ ps) e h = let set : o ≡ Some h.0 = h.2 in absurd (cc)

module _ {U : Type 0} (node : U → PlainStore → Name → Type 0) where
  -- a list of one caller is one of another with the same usage and store
  pub list_same : (c d : Sight U) → d.usage ≡ c.usage → d.seen ≡ c.seen → (o : Option Name) (ps : List Pair)
      → IsList (node c.usage) (present c) o ps → IsList (node d.usage) (present d) o ps
  list_same c d usage seen o ps h =
      subst (λ (u : U). IsList (node u) (present d) o ps) (sym usage)
      (subst (λ (l : List Entry). IsList (node c.usage) (store_of l) o ps) (sym seen) h)

  -- a list stays where its caller makes no entry
  pub list_rests : (c d : Sight U) → Rests c d → (o : Option Name) (ps : List Pair)
      → IsList (node c.usage) (present c) o ps → IsList (node d.usage) (present d) o ps
  list_rests c d h o ps is = list_same c d h.caller.usage h.seen o ps is

  module _ (lawful : U → PlainStore → Type 0) (allowed : U → PlainStore → Entry → Type 0)
      (laws : (u : U) → NodeLaws (lawful u) (allowed u) (node u)) where
    -- a list stays whatever its caller and others do
    pub list_goes : (c d : Sight U) (own : List Entry) → Goes lawful allowed c d own → (o : Option Name) (ps : List Pair)
        → IsList (node c.usage) (present c) o ps → IsList (node d.usage) (present d) o ps
    list_goes c d own h o ps is =
        subst (λ (u : U). IsList (node u) (present d) o ps) (sym h.caller.usage)
        (list_kept (node c.usage) (present c) (present d) (keeps_nodes_goes lawful allowed node laws c d own h) o ps is)
