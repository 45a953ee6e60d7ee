-- What the program's loop does with an attempt: fetch, conditional store, store to the board.
use Rattle.std.proofs.Common.{◌≡◌, ℕ, ◌+◌, ◌<◌, ◌≤◌, List, [], ◌∷◌, ◌++◌, length, All, Some, refl, sym, ap, ◌∙◌, subst, arith, append_assoc}
use Rattle.std.specs.Prelude.{slice_index}
use Rattle.std.proofs.lemmas.List.Elements.{All-weaker}
use Rattle.hm_orders.specs.declared.order.Order.{Order}
use Rattle.hm_orders.specs.Orders.{IsWellFormed}
use Rattle.hm_model.specs.declared.object.Name.{Name}
use Rattle.hm_model.specs.declared.object.Contents.{Contents}
use Rattle.hm_model.specs.declared.object.Field.TheVariants.{Number}
use Rattle.hm_model.specs.declared.entry.Entry.{Entry}
use Rattle.hm_model.specs.declared.entry.Entry.TheVariants.{Fetch}
use Rattle.hm_model.specs.declared.root.Root.{Root}
use Rattle.hm_model.specs.declared.root.Snapshot.{Snapshot}
use Rattle.hm_model.specs.Store.{Refs, PlainStore, contents_of}
use Rattle.hm_model.specs.History.{store_after}
use Rattle.hm_model.specs.Lawful.{KeepsNodes, OthersLead}
use Rattle.hm_model.specs.Sight.{Sight, name_at, root_of, present}
use Rattle.hm_model.specs.Building.{Builds}
use Rattle.hm_model.specs.Calls.{FetchesAll, MayStore, MayStoreIf, StoresAll, snapshot_of}
use Rattle.hm_model.proofs.HistoryFacts.{store_after-append, same_stamp}
use Rattle.hm_model.proofs.SightFacts.{present-goes, well_made_present, goes_enters}
use Rattle.hm_model.proofs.Nodes.{keeps_nodes_then, keeps_nodes_after, keeps_nodes_goes}
use Rattle.hm_book.specs.declared.book.Resting.{Resting}
use Rattle.hm_book.specs.Run.{next_effect, state_after}
use Rattle.hm_book.specs.Sound.{IsSound}
use Rattle.hm_book.proofs.Apart.{names_after}
use Rattle.hm_book.proofs.SoundSteps.{IsSound-state_after}
use Rattle.hm_agreement.specs.Cells.{board_name, book_name, IsNode, IsInRange}
use Rattle.hm_agreement.specs.Agreed.{HasBook}
use Rattle.hm_agreement.proofs.Agreeing.{has_kept, shows_kept}
use Rattle.hm_agreement.proofs.Uncrossed.{uncrossed_after}
use Rattle.hm_cellbook.specs.declared.usage.BookUsage.{BookUsage}
use Rattle.hm_cellbook.specs.declared.attempt.Attempt.{Attempt}
use Rattle.hm_cellbook.specs.Fetched.{book_lawful, book_allowed, book_node, fetched_contents, WasFetched}
use Rattle.hm_cellbook.specs.Attempted.{state_at, next_contents, TellsOrder, Applies}
use Rattle.hm_cellbook.proofs.Fetching.{node_laws, read_store, fetched_stamp, fetched_book}

-- four names are those that a list of four has
four_names : (refs : Refs) → length refs ≡ 4
    → refs ≡ name_at refs 0 ∷ name_at refs 1 ∷ name_at refs 2 ∷ name_at refs 3 ∷ []
four_names (a ∷ b ∷ c ∷ d ∷ []) h = refl
four_names [] h = absurd (omega arith)
four_names (a ∷ []) h = absurd (omega arith)
four_names (a ∷ b ∷ []) h = absurd (omega arith)
four_names (a ∷ b ∷ c ∷ []) h = absurd (omega arith)
four_names (a ∷ b ∷ c ∷ d ∷ e ∷ l) h = absurd (omega arith)

-- root place 0 was fetched after a whole fetch from it into places 4 to 7
pub was_fetched : (c d : Sight BookUsage) (from hand : Root) (at : Snapshot) → from.0 ≡ 0 → hand.0 ≡ 4
    → root_of c from ≡ Some book_name → FetchesAll book_lawful book_allowed c d from hand at → WasFetched d at
was_fetched c d from hand at first four names h =
    let n : h.fetch.name ≡ book_name = let place = h.fetch.place in cc in
    let has = h.fetch.entry.history in
    let sized = (well_made_present book_lawful book_allowed d has).sized h.fetch.name h.answer h.fetch.now in
    let place : (i j : ℕ) → i < 4 → j ≡ 4 + i → name_at d.roots j ≡ name_at h.answer.refs i =
    λ i j small is. subst (λ (k : ℕ). name_at d.roots k ≡ name_at h.answer.refs i) (omega arith)
    (h.roots.here i small) in
    let refs : (fetched_contents d at).refs ≡ h.answer.refs =
    let a = place 0 4 (omega arith) (omega arith) in
    let b = place 1 5 (omega arith) (omega arith) in
    let e = place 2 6 (omega arith) (omega arith) in
    let f = place 3 7 (omega arith) (omega arith) in
    let all = four_names h.answer.refs sized.four in
    cc in
    let contents : fetched_contents d at ≡ h.answer =
    ap (λ (l : Refs). record { stamp = at.stamp; refs = l; numbers = at.numbers }) refs
    ∙ ap (λ (s : Snapshot). record { stamp = s.stamp; refs = h.answer.refs; numbers = s.numbers }) h.value in
    let number = h.fetch.entry.caller.number in
    let same : Fetch c.number h.fetch.name h.answer ≡ Fetch d.number book_name (fetched_contents d at) = cc in
    let here : name_at c.roots 0 ≡ Some book_name =
    subst (λ (k : ℕ). name_at c.roots k ≡ Some book_name) first names in
    record {
      place = h.roots.below 0 (omega arith) ∙ here;
      before = c.seen ++ h.fetch.entry.between;
      later = [];
      seen = h.fetch.entry.seen ∙ (sym
          (append_assoc c.seen h.fetch.entry.between (Fetch c.number h.fetch.name h.answer ∷ []))
          ∙ ap (λ (e : Entry). (c.seen ++ h.fetch.entry.between) ++ e ∷ []) same);
      value = h.value ∙ ap snapshot_of (sym contents);
      history = has;
    }

-- what the caller that works on an attempt may tell on the board
pub may_tell : (c : Sight BookUsage) (at : Root) (value : ℕ) → root_of c at ≡ Some board_name
    → value ≤ slice_index c.usage.lengths c.number
    → MayStore book_lawful book_allowed c at (Number c.number value)
may_tell c at value names few n is s lead stands =
    let same : n ≡ board_name = cc in (same, refl, few)

module _ (c d : Sight BookUsage) (at : Snapshot) (w : WasFetched c at) (most : ℕ)
    (builds : Builds book_lawful book_allowed c d most) where
  -- nodes are kept while an attempt builds
  attempt_keeps : KeepsNodes IsNode (present c) (present d)
  attempt_keeps = keeps_nodes_goes book_lawful book_allowed book_node node_laws c d builds.own builds.goes

  module _ (s : PlainStore) (lead : OthersLead (book_lawful d.usage) (book_allowed d.usage) d.seen d.number s) where
    lead_keeps : KeepsNodes IsNode (present d) s
    lead_keeps =
        subst (KeepsNodes IsNode (present d)) (sym lead.here)
        (keeps_nodes_after (book_lawful d.usage) (book_allowed d.usage) IsNode (node_laws d.usage)
        (present d) lead.between lead.come)

    -- where others lead, the common object that has the stamp of the fetch holds what was fetched
    same_fetched : (x : Contents) → contents_of s book_name ≡ Some x → x.stamp ≡ at.stamp → x
        ≡ fetched_contents c at
    same_fetched x there stamp =
        let r = read_store c at w in
        let more = builds.goes.more in
        let whole : s ≡ store_after r.store (r.later ++ (more ++ lead.between)) =
        lead.here
        ∙ (ap (λ (t : PlainStore). store_after t lead.between)
        (present-goes book_lawful book_allowed c d builds.own builds.goes)
        ∙ (sym (store_after-append (present c) more lead.between)
        ∙ (ap (λ (t : PlainStore). store_after t (more ++ lead.between)) r.now
        ∙ sym (store_after-append r.store r.later (more ++ lead.between))))) in
        same_stamp r.store (r.later ++ (more ++ lead.between)) book_name (fetched_contents c at) x r.there
        (ap (λ (t : PlainStore). contents_of t book_name) (sym whole) ∙ there) stamp

  -- an attempt of the caller's own file may be stored
  pub may_store_attempt : (order : Order) (a : Attempt) → IsWellFormed order
      → order.row < 18446744073709551616
      → ((book : List Resting) → HasBook (present c) (fetched_contents c at) book → Applies d at order book a)
      → TellsOrder d at order a → (r : Root) → root_of d r ≡ Some book_name → order.file ≡ d.number + 1
      → MayStoreIf book_lawful book_allowed d r at.stamp a.refs a.numbers
  may_store_attempt order a well_formed row applies tells r names file n is s lead stands =
      let same : n ≡ book_name = cc in
      let there : contents_of s book_name
      ≡ Some stands.contents = subst
      (λ (m : Name). contents_of s m ≡ Some stands.contents) same stands.there in
      let fetched : stands.contents ≡ fetched_contents c at =
      same_fetched s lead stands.contents there stands.answers in
      let has = fetched_book c at w in
      let kept = keeps_nodes_then IsNode (present c) (present d) s attempt_keeps (lead_keeps s lead) in
      let it = applies has.0 has.1 in (
        same,
        record {
          order = order;
          holds = tells.holds;
          well_formed = well_formed;
          file = file;
          row = row;
          root = tells.root;
          board = tells.board;
          common = fetched_contents c at;
          there = there ∙ ap (λ (x : Contents). Some x) fetched;
          book = has.0;
          before = has_kept (present c) s (fetched_contents c at) has.0 kept has.1;
          effect = next_effect d.usage.limits (state_at at has.0) order;
          made = refl;
          after = shows_kept (present d) s (next_contents d at a)
              (state_after d.usage.limits (state_at at has.0) order).book (lead_keeps s lead) it.shows;
          fills = it.fills;
        },
      )

  -- an attempt that was stored: the common object holds its contents, and has the book that the order leaves
  pub stored_book : (f : Sight BookUsage) (order : Order) (a : Attempt) (book : List Resting)
      → HasBook (present c) (fetched_contents c at) book → Applies d at order book a → TellsOrder d at order a
      → (r : Root) → root_of d r ≡ Some book_name
      → StoresAll book_lawful book_allowed d f r at.stamp a.refs a.numbers
      → (contents_of (present f) book_name ≡ Some (next_contents d at a))
      × HasBook (present f) (next_contents d at a) (state_after d.usage.limits (state_at at book) order).book
  stored_book f order a book has applies tells r names stored =
      let same : stored.name ≡ book_name = let place = stored.place in cc in
      let limits = d.usage.limits in
      let before = state_at at book in
      let number = fetched_stamp c at w in
      let sound : IsSound before = record {
        rising = has.rising;
        applied = subst (λ (k : ℕ). All (λ r. r.root ≤ k) book) number has.applied;
        some = All-weaker IsInRange (λ r. 0 < r.quantity) (λ r h. h.quantity.some) book has.shows.ranges;
        few = subst (λ (k : ℕ). slice_index at.numbers 9 + length book ≤ k) number has.few;
      } in
      let after = IsSound-state_after limits before order sound in
      let goes = goes_enters book_lawful book_allowed d f _ stored.entry in
      let keeps = keeps_nodes_goes book_lawful book_allowed book_node node_laws d f _ goes in
      let left = (state_after limits before order).book in (
        subst (λ (m : Name). contents_of (present f) m ≡ Some (next_contents d at a)) same stored.now,
        record {
          shows = shows_kept (present d) (present f) (next_contents d at a) left keeps applies.shows;
          rising = after.rising;
          applied = subst (λ (k : ℕ). All (λ r. r.root ≤ k) left) (sym tells.root) after.applied;
          ids = names_after limits order (at.stamp + 1) (slice_index at.numbers 9) book has.ids;
          uncrossed = uncrossed_after limits order (at.stamp + 1)
              (slice_index at.numbers 9) book has.rising has.uncrossed;
          few = subst (λ (k : ℕ). slice_index a.numbers 9 + length left ≤ k) (sym tells.root)
              (subst (λ (k : ℕ). k + length left ≤ at.stamp + 1) (sym applies.fills) after.few);
        },
      )
