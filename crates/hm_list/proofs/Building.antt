-- Cells that are made in front of a list.
use Rattle.std.proofs.Common.{◌≡◌, ℕ, ◌+◌, List, [], ◌∷◌, length, Option, Some, None, Result, Ok, Err, OnOk, OnErr, sym, ap, ◌∙◌, subst, arith}
use Rattle.hm_model.specs.declared.object.Name.{Name}
use Rattle.hm_model.specs.declared.object.Contents.{Contents}
use Rattle.hm_model.specs.declared.entry.Entry.{Entry}
use Rattle.hm_model.specs.declared.entry.Entry.TheVariants.{Create}
use Rattle.hm_model.specs.declared.root.Root.{Root}
use Rattle.hm_model.specs.declared.root.Full.{Full}
use Rattle.hm_model.specs.Store.{Numbers, PlainStore, contents_of}
use Rattle.hm_model.specs.Effect.{new_contents}
use Rattle.hm_model.specs.Lawful.{NodeLaws}
use Rattle.hm_model.specs.Sight.{Sight, present, root_of, name_of, names_of, Rests, SetsRoot}
use Rattle.hm_model.specs.Building.{Builds}
use Rattle.hm_model.specs.Calls.{Creates}
use Rattle.hm_model.proofs.SightFacts.{goes_enters}
use Rattle.hm_model.proofs.Nodes.{created_node}
use Rattle.hm_list.specs.declared.key.Pair.{Pair}
use Rattle.hm_list.specs.Pairs.{AreInOrder}
use Rattle.hm_list.specs.Cells.{numbers_of, cell_of, IsList, pairs_at, LeadsTo, HasList}
use Rattle.hm_list.specs.Places.{SameOutside}
use Rattle.hm_list.specs.Fronts.{PutsInFront}
use Rattle.hm_list.proofs.ListFacts.{list_rests, list_goes}
use Rattle.hm_list.proofs.Finite.{listed, list_stays_rests}
use Rattle.hm_list.proofs.PlaceFacts.{outside_none, outside_sets}

-- what follows from a fact of Ok holds on Ok
pub ok_then : {T E : Type 0} (r : Result T E) (P Q : Type 0) → OnOk r P → (P → Q) → OnOk r Q
ok_then (Ok v) P Q h f = f h
ok_then (Err e) P Q h f = tt

module _ {U : Type 0} (node : U → PlainStore → Name → Type 0) where
  -- a list that is copied to another place
  pub moved_list : (c d : Sight U) (from to : Root) (ps : List Pair) → Rests c d → SetsRoot c d to.0 (root_of c from)
      → LeadsTo node c from ps → LeadsTo node d to ps
  moved_list c d from to ps rests sets is =
      subst (λ (o : Option Name). IsList (node d.usage) (present d) o ps) (sym sets.here)
      (list_rests node c d rests (root_of c from) ps is)

module _ {U : Type 0} (lawful : U → PlainStore → Type 0) (allowed : U → PlainStore → Entry → Type 0) where
  -- a create sets one place, or does nothing
  pub outside_tried : (c d : Sight U) (at : Root) (refs : List (Option Root)) (numbers : Numbers)
      (r : Result (Unit {0}) Full)
      → OnOk r (Creates lawful allowed c d at refs numbers) → OnErr r (d ≡ c)
      → SameOutside c d at.0 (at.0 + 1)
  outside_tried c d at refs numbers (Ok x) made same =
      outside_sets c d at.0 at.0 (at.0 + 1) (Some made.name) (omega arith) (omega arith) made.roots
  outside_tried c d at refs numbers (Err e) made same =
      subst (λ (f : Sight U). SameOutside c f at.0 (at.0 + 1)) (sym same) (outside_none c at.0 (at.0 + 1))

module _ {U : Type 0} (node : U → PlainStore → Name → Type 0) (lawful : U → PlainStore → Type 0)
    (allowed : U → PlainStore → Entry → Type 0) where
  module _ (laws : (u : U) → NodeLaws (lawful u) (allowed u) (node u)) where
    -- a new cell is in front of the list that it names
    pub created_first : (c d : Sight U) (at : Root) (next : Option Root) (p : Pair) (numbers : Numbers)
        → Creates lawful allowed c d at (next ∷ None ∷ None ∷ None ∷ []) numbers
        → name_of c next ≡ root_of c at → numbers ≡ numbers_of p → length p.load ≡ 6
        → PutsInFront node c d at (p ∷ [])
    created_first c d at next p numbers h named filled six rest is =
        let goes = goes_enters lawful allowed c d (Create c.number h.name (names_of c (next ∷ None ∷ None ∷ None ∷ [])) numbers) h.entry in
        let none : Option Name = None in
        let cell : Numbers → Option Name → Contents = λ ns o. new_contents (o ∷ none ∷ none ∷ none ∷ []) ns in
        let holds : contents_of (present d) h.name ≡ Some (cell_of p (root_of c at)) =
        h.now ∙ (ap (λ (ns : Numbers). Some (cell ns (name_of c next))) filled ∙ ap (λ (o : Option Name). Some (cell_of p o)) named) in
        let here : node d.usage (present d) h.name =
        subst (λ (u : U). node u (present d) h.name) (sym goes.caller.usage)
        (created_node lawful allowed node laws c d c.number h.name (names_of c (next ∷ None ∷ None ∷ None ∷ [])) numbers h.entry) in (
          h.name,
          root_of c at,
          h.roots.here,
          here,
          holds,
          six,
          list_goes node lawful allowed laws c d _ goes (root_of c at) rest is,
        )

    -- a list after a call that put a new one into its place or kept the old one, and then rests
    pub answered : {T E : Type 0} (c d f : Sight U) (list : Root) (ps : List Pair) (most : ℕ) (r : Result T E)
        → Builds lawful allowed c d most → Rests d f → root_of f list ≡ root_of d list → HasList node c list → AreInOrder ps
        → OnOk r (LeadsTo node d list ps) → OnErr r (root_of d list ≡ root_of c list)
        → HasList node f list × OnOk r (pairs_at f list ≡ ps) × OnErr r (pairs_at f list ≡ pairs_at c list)
    answered c d f list ps most (Ok x) builds rests same has order put kept =
        let now : LeadsTo node f list ps = subst (λ (o : Option Name). IsList (node f.usage) (present f) o ps) (sym same)
        (list_rests node d f rests (root_of d list) ps put) in
        let l = listed node f list ps now order in (l.0, l.1, tt)
    answered c d f list ps most (Err e) builds rests same has order put kept =
        let l = list_stays_rests node lawful allowed laws c d f list most builds rests (same ∙ kept) has in
        (l.0, tt, l.1)
