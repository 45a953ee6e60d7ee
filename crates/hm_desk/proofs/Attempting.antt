-- What an attempt builds is ready to be stored.
use Rattle.std.proofs.Common.{◌≡◌, ⊎_elim, ℕ, ◌+◌, ◌<◌, ◌≤◌, List, ◌++◌, Result, Ok, Err, IfOk, OnErr, length, sym, ap, ◌∙◌, subst, arith, slice_index, [], ◌∷◌, Some}
use Rattle.std.proofs.lemmas.Bool.{cases_lt}
use Rattle.hm_orders.specs.declared.order.Order.{Order}
use Rattle.hm_model.specs.declared.object.Contents.{Contents}
use Rattle.hm_model.specs.declared.entry.Entry.{Entry}
use Rattle.hm_model.specs.declared.root.Snapshot.{Snapshot}
use Rattle.hm_model.specs.declared.root.Root.{Root}
use Rattle.hm_model.specs.declared.entry.Entry.TheVariants.{Fetch}
use Rattle.hm_model.specs.Store.{PlainStore, contents_of}
use Rattle.hm_model.specs.History.{store_after}
use Rattle.hm_model.specs.Lawful.{AllCome, KeepsNodes}
use Rattle.hm_model.specs.Sight.{AreSet, IsUntended, Sight, name_at, present, root_of}
use Rattle.hm_model.specs.Building.{Builds}
use Rattle.hm_model.specs.Calls.{FetchesAll, MayStoreIf}
use Rattle.hm_model.proofs.HistoryFacts.{same_stamp, store_after-append}
use Rattle.hm_model.proofs.SightFacts.{present-goes}
use Rattle.hm_model.proofs.Nodes.{keeps_nodes_after, keeps_nodes_goes, keeps_nodes_then}
use Rattle.hm_book.specs.declared.book.Resting.{Resting}
use Rattle.hm_book.specs.Run.{BookState, done_of, state_after}
use Rattle.hm_agreement.specs.Cells.{IsNode, book_name}
use Rattle.hm_agreement.specs.Agreed.{HasBook}
use Rattle.hm_agreement.specs.Spelled.{HasState}
use Rattle.hm_agreement.proofs.Agreeing.{has_kept}
use Rattle.hm_list.specs.Places.{AreUnset, SameOutside}
use Rattle.hm_cellbook.specs.declared.usage.BookUsage.{BookUsage}
use Rattle.hm_cellbook.specs.declared.attempt.Attempt.{Attempt}
use Rattle.hm_cellbook.specs.declared.attempt.AttemptRefused.{AttemptRefused}
use Rattle.hm_cellbook.specs.Fetched.{WasFetched, book_allowed, book_lawful, book_node, fetched_contents}
use Rattle.hm_cellbook.specs.Attempted.{Applies, LeavesPlaces, TellsOrder, state_at}
use Rattle.hm_cellbook.proofs.Fetching.{fetched_book, fetched_stamp, node_laws, read_store}
use Rattle.hm_cellbook.proofs.Attempts.{was_fetched}
use Rattle.hm_desk.specs.Hindered.{FetchesBook}
use Rattle.hm_desk.specs.Working.{IsAtDesk, IsReady, TellsState, stamp_in}

-- whatever an attempt answers, places 0 to 3 and those from 17 on name what they named
pub build_outside : (c d : Sight BookUsage) (r : Result Attempt AttemptRefused) → IsAtDesk c
    → ((k : ℕ) → k < 8 → name_at d.roots k ≡ name_at c.roots k)
    → ((k : ℕ) → 256 ≤ k → name_at d.roots k ≡ name_at c.roots k)
    → OnErr r (AreUnset d 8 256) → IfOk r (LeavesPlaces c d) → SameOutside c d 4 17
build_outside c d (Ok a) h below beyond unset leaves =
    record { below = λ k lt. below k (omega arith); above = λ k le. leaves.above k le }
build_outside c d (Err e) h below beyond unset leaves = record {
  below = λ k lt. below k (omega arith);
  above = λ k le. ⊎_elim (λ (lt : k < 256). unset k (omega arith) lt ∙ sym (h.high k le))
      (λ (far : 256 ≤ k). beyond k far) (cases_lt k 256);
}

module _ (c d : Sight BookUsage) (at : Snapshot) (w : WasFetched c at) (most : ℕ)
    (builds : Builds book_lawful book_allowed c d most) (order : Order) where
  -- wherever others lead the common object with the stamp of the fetch, an attempt tells what the
  -- order makes of the book there
  tells_there : (a : Attempt)
      → ((book : List Resting) → HasBook (present c) (fetched_contents c at) book → Applies d at order book a)
      → (es : List Entry) (state : BookState)
      → AllCome (book_lawful d.usage) (book_allowed d.usage) (present d) es
      → stamp_in (contents_of (store_after (present d) es) book_name) ≡ at.stamp
      → HasState (store_after (present d) es) state → TellsState d state order a
  tells_there a applies es state come stamp has =
      let s : PlainStore = store_after (present d) es in
      let r = read_store c at w in
      let more = builds.goes.more in
      let whole : s ≡ store_after r.store (r.later ++ (more ++ es)) =
      ap (λ (t : PlainStore). store_after t es) (present-goes book_lawful book_allowed c d builds.own builds.goes)
      ∙ (sym (store_after-append (present c) more es)
      ∙ (ap (λ (t : PlainStore). store_after t (more ++ es)) r.now
      ∙ sym (store_after-append r.store r.later (more ++ es)))) in
      let common : has.common ≡ fetched_contents c at =
      same_stamp r.store (r.later ++ (more ++ es)) book_name (fetched_contents c at) has.common r.there
      (ap (λ (t : PlainStore). contents_of t book_name) (sym whole) ∙ has.there)
      (sym (ap stamp_in has.there) ∙ stamp) in
      let first : KeepsNodes IsNode (present c) (present d) =
      keeps_nodes_goes book_lawful book_allowed book_node node_laws c d builds.own builds.goes in
      let then : KeepsNodes IsNode (present d) s =
      keeps_nodes_after (book_lawful d.usage) (book_allowed d.usage) IsNode (node_laws d.usage) (present d) es
      come in
      let kept = keeps_nodes_then IsNode (present c) (present d) s first then in
      let fetched = fetched_book c at w in
      let there : HasBook s (fetched_contents c at) fetched.0 =
      has_kept (present c) s (fetched_contents c at) fetched.0 kept fetched.1 in
      let book : fetched.0 ≡ state.book =
      has.only fetched.0 (subst (λ (x : Contents). HasBook s x fetched.0) (sym common) there) in
      let applied : at.stamp ≡ state.applied =
      sym (fetched_stamp c at w) ∙ (sym (ap (λ (x : Contents). slice_index x.numbers 0) common) ∙ has.applied) in
      let fills : slice_index at.numbers 9 ≡ state.fills =
      sym (ap (λ (x : Contents). slice_index x.numbers 9) common) ∙ has.fills in
      let known : state_at at fetched.0 ≡ state =
      λ i. record { book = book i; applied = applied i; fills = fills i } in
      let it = applies fetched.0 fetched.1 in
      record {
        done = it.done ∙ (λ i. done_of d.usage.limits (known i) order);
        resting = it.shows.resting ∙ (λ i. length (state_after d.usage.limits (known i) order).book);
      }

  -- so an attempt that was answered is ready
  pub build_ready : (r : Result Attempt AttemptRefused) → order.file ≡ c.number + 1
      → IfOk r (λ a. (book : List Resting) → HasBook (present c) (fetched_contents c at) book
      → Applies d at order book a)
      → IfOk r (TellsOrder d at order) → IfOk r (λ a. AreSet d a.refs)
      → IfOk r (λ a. order.file ≡ d.number + 1
      → MayStoreIf book_lawful book_allowed d (record { 0 = 0 }) at.stamp a.refs a.numbers)
      → IfOk r (IsReady d order at.stamp)
  build_ready (Ok a) file applies tells set allowed = record {
    set = set;
    allowed = allowed (file ∙ sym (ap (λ (q : ℕ). q + 1) builds.goes.caller.number));
    holds = tells.holds;
    tells = tells_there a applies;
  }
  build_ready (Err e) file applies tells set allowed = tt

-- the caller's entry is the Fetch of what was fetched
pub fetch_entry : (c d : Sight BookUsage) (from hand : Root) (at : Snapshot) → from.0 ≡ 0 → hand.0 ≡ 4
    → root_of c from ≡ Some book_name → IsUntended c d → FetchesAll book_lawful book_allowed c d from hand at
    → FetchesBook c d at
fetch_entry c d from hand at first four names untended h =
    let w : WasFetched d at = was_fetched c d from hand at first four names h in
    let r = read_store d at w in
    let name : h.fetch.name ≡ book_name = let place = h.fetch.place in cc in
    let now : contents_of (present d) book_name ≡ Some h.answer = let held = h.fetch.now in cc in
    let same : h.answer ≡ fetched_contents d at =
    same_stamp r.store r.later book_name (fetched_contents d at) h.answer r.there
    (ap (λ (s : PlainStore). contents_of s book_name) (sym r.now) ∙ now)
    (ap (λ (s : Snapshot). s.stamp) (sym h.value)) in
    record {
      mine = h.fetch.entry.mine ∙ (λ i. c.mine ++ Fetch c.number (name i) (same i) ∷ []);
      copying = untended.copying;
      room = h.fetch.room.kept;
    }
