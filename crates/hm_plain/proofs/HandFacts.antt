-- Root places that get what a fetch found, one or four in a row.
use Rattle.std.proofs.Common.{◌≡◌, ℕ, zero, suc, ◌+◌, ◌<◌, ◌≤◌, Bool, Option, Some, None, is_some, IfSome, List, [], ◌∷◌, length, get_or, slice_set, refl, sym, ap, ◌∙◌, subst, rules}
use Rattle.std.proofs.lemmas.List.{places}
use Rattle.std.proofs.lemmas.List.Elements.{All-head, All-tail, All-set, All-append, All-take, All-drop}
use Rattle.std.proofs.Math.ListN.{get_or-map}
use Rattle.std.specs.Option.{option_map}
use borrow.Rule.Slice.PartMut.{put_mid}
use Rattle.hm_model.specs.declared.object.Name.{Name}
use Rattle.hm_model.specs.declared.entry.Entry.{Entry}
use Rattle.hm_model.specs.declared.root.Root.{Root}
use Rattle.hm_model.specs.Store.{PlainStore, AreThere}
use Rattle.hm_model.specs.Sight.{Sight, name_at, present, Rests, SetsRoot}
use Rattle.hm_model.specs.Calls.{Fetches, FetchesAll, FetchesRef, snapshot_of}
use Rattle.hm_model.proofs.CallFacts.{fetches_rests}
use Rattle.hm_plain.specs.declared.object.Object.{Object}
use Rattle.hm_plain.specs.declared.diary.View.{View}
use Rattle.hm_plain.specs.Calls.{contents_of_object}
use Rattle.hm_plain.specs.Indices.{indexed_name, indexed_names, AreBelow}
use Rattle.hm_plain.specs.Stocks.{Stock}
use Rattle.hm_plain.specs.Sights.{sight_of, Agree}
use Rattle.hm_plain.proofs.IndexFacts.{all_below}
use Rattle.hm_plain.proofs.AgreeFacts.{root_of-index, sets_root, agree_places}

-- the four have what was put there
pub put_here : {X : Type 0} (a n : ℕ) (xs ys : List X) (d : X) → n ≡ 4 → length ys ≡ 4 → a + 4 ≤ length xs → (i : ℕ) → i < 4 → get_or (put_mid a n xs ys) (a + i) d ≡ get_or ys i d
put_here a n xs ys d four long small i less = search (rules, places)

-- those below stay
pub put_below : {X : Type 0} (a n : ℕ) (xs ys : List X) (d : X) → n ≡ 4 → length ys ≡ 4 → a + 4 ≤ length xs → (k : ℕ) → k < a → get_or (put_mid a n xs ys) k d ≡ get_or xs k d
put_below a n xs ys d four long small k less = search (rules, places)

-- and so do those above
pub put_above : {X : Type 0} (a n : ℕ) (xs ys : List X) (d : X) → n ≡ 4 → length ys ≡ 4 → a + 4 ≤ length xs → (k : ℕ) → a + 4 ≤ k → get_or (put_mid a n xs ys) k d ≡ get_or xs k d
put_above a n xs ys d four long small k more = search (rules, places)

abbrev IsBelow : ℕ → Option ℕ → Type 0
IsBelow n index = IfSome index (λ k. k < n)

one_given : (n : ℕ) (indices : List (Option ℕ)) (i : ℕ) → AreBelow n indices → IsBelow n (get_or indices i None)
one_given n [] i h = tt
one_given n (x ∷ xs) zero h = All-head (IsBelow n) x xs h
one_given n (x ∷ xs) (suc i) h = one_given n xs i (All-tail (IsBelow n) x xs h)

is_some-map : (index : Option ℕ) → is_some (option_map indexed_name index) ≡ is_some index
is_some-map None = refl
is_some-map (Some k) = refl

module _ {U : Type 0} where
  -- other root places alone
  rests_places : (v : View U) (o : Stock) (roots after : List (Option ℕ)) (d : Sight U) → sight_of v o roots ≡ d → Rests d (sight_of v o after)
  rests_places v o roots after d view = subst (λ (x : Sight U). Rests x (sight_of v o after)) view record {
    caller = record { heap = refl; usage = refl; start = refl; number = refl; span = refl };
    untended = record { copying = refl; kept = refl; moves = refl; tends = refl };
    seen = refl;
    mine = refl;
    room = refl;
    used = refl;
    free = refl;
  }

  -- what is there has indices of the table
  pub found_below : (v : View U) (o : Stock) (roots indices : List (Option ℕ)) (d : Sight U) → sight_of v o roots ≡ d → Agree v o roots → AreThere (present d) (indexed_names indices) → AreBelow (length o.contents) indices
  found_below v o roots indices d view h there =
      let here = subst (λ (x : Sight U). AreThere (present x) (indexed_names indices)) (sym view) there in
      all_below o.contents indices (subst (λ (s : PlainStore). AreThere s (indexed_names indices)) (sym h.store) here)

  -- all agrees where a place gets an index that was found
  pub agree_found : (v : View U) (o : Stock) (roots indices : List (Option ℕ)) (k i : ℕ) → Agree v o roots → AreBelow (length o.contents) indices → Agree v o (slice_set roots k (get_or indices i None))
  agree_found v o roots indices k i h below =
      agree_places v o roots (slice_set roots k (get_or indices i None)) h (All-set (IsBelow (length o.contents)) roots k (get_or indices i None) (one_given (length o.contents) indices i below) h.places)

  -- and where four get them
  pub agree_hand : (v : View U) (o : Stock) (roots indices : List (Option ℕ)) (a n : ℕ) → Agree v o roots → AreBelow (length o.contents) indices → Agree v o (put_mid a n roots indices)
  agree_hand v o roots indices a n h below =
      let P : Option ℕ → Type 0 = IsBelow (length o.contents) in
      agree_places v o roots (put_mid a n roots indices) h (All-append P _ _ (All-take P a roots h.places) (All-append P indices _ below (All-drop P n _ (All-drop P a roots h.places))))

  module _ (lawful : U → PlainStore → Type 0) (allowed : U → PlainStore → Entry → Type 0) where
    -- a fetch of one reference
    pub fetches_ref : (v : View U) (o : Stock) (roots : List (Option ℕ)) (from into : Root) (x : Object) (i : ℕ) (result : Bool) (c d : Sight U) → sight_of v o roots ≡ d → into.0 < length roots
        → Fetches lawful allowed c d from (contents_of_object x) → d.roots ≡ c.roots → result ≡ is_some (get_or x.refs i None) → FetchesRef lawful allowed c (sight_of v o (slice_set roots into.0 (get_or x.refs i None))) from i into result
    fetches_ref v o roots from into x i result c d view small fetched same is =
        let index = get_or x.refs i None in
        let after = slice_set roots into.0 index in
        let f = sight_of v o after in
        let name : option_map indexed_name index ≡ name_at (indexed_names x.refs) i = sym (get_or-map (option_map indexed_name) x.refs i None) in
        let sets : SetsRoot d f into.0 (option_map indexed_name index) = subst (λ (y : Sight U). SetsRoot y f into.0 (option_map indexed_name index)) view (sets_root v v o o roots into.0 index small) in
        record {
          answer = contents_of_object x;
          fetch = fetches_rests lawful allowed c d f from (contents_of_object x) fetched (rests_places v o roots after d view);
          value = is ∙ (sym (is_some-map index) ∙ ap is_some name);
          roots = record {
            here = sets.here ∙ name;
            others = λ k ne. sets.others k ne ∙ ap (λ (l : List (Option Name)). name_at l k) same;
          };
        }

    -- a whole fetch
    pub fetches_all : (v : View U) (o : Stock) (roots : List (Option ℕ)) (n : ℕ) (from hand : Root) (x : Object) (c d : Sight U) → sight_of v o roots ≡ d → n ≡ 4 → length x.refs ≡ 4 → hand.0 + 4 ≤ length roots
        → Fetches lawful allowed c d from (contents_of_object x) → d.roots ≡ c.roots → FetchesAll lawful allowed c (sight_of v o (put_mid hand.0 n roots x.refs)) from hand (snapshot_of (contents_of_object x))
    fetches_all v o roots n from hand x c d view four long small fetched same =
        let after = put_mid hand.0 n roots x.refs in
        let f = sight_of v o after in
        let was : (k : ℕ) → option_map indexed_name (get_or roots k None) ≡ name_at c.roots k =
        λ k. sym (root_of-index v o roots k) ∙ (ap (λ (y : Sight U). name_at y.roots k) view ∙ ap (λ (l : List (Option Name)). name_at l k) same) in
        record {
          answer = contents_of_object x;
          fetch = fetches_rests lawful allowed c d f from (contents_of_object x) fetched (rests_places v o roots after d view);
          value = refl;
          roots = record {
            here = λ i less. root_of-index v o after (hand.0 + i) ∙ (ap (option_map indexed_name) (put_here hand.0 n roots x.refs None four long small i less) ∙ sym (get_or-map (option_map indexed_name) x.refs i None));
            below = λ k less. root_of-index v o after k ∙ (ap (option_map indexed_name) (put_below hand.0 n roots x.refs None four long small k less) ∙ was k);
            above = λ k more. root_of-index v o after k ∙ (ap (option_map indexed_name) (put_above hand.0 n roots x.refs None four long small k more) ∙ was k);
          };
        }
