-- The board tells what each caller told it last.
use Rattle.std.proofs.Common.{◌≡◌, ◌≢◌, ℕ, ◌<◌, ◌==◌, Bool, true, false, cond, List, [], ◌∷◌, ◌++◌, length, Some, None, fold, set, replicate, slice_index, refl, sym, ap, ◌∙◌, subst, arith, get_or-set_other, get_or-set_same}
use Rattle.std.specs.Option.{option_map}
use Rattle.std.proofs.lemmas.Bool.{eqb-true, eqb-false}
use Rattle.std.proofs.lemmas.List.{get_or-replicate, length-set}
use Rattle.std.proofs.lemmas.List.Elements.{filter-append}
use Rattle.std.proofs.lemmas.List.Sums.{fold-append}
use Rattle.hm_model.specs.declared.object.Name.{Name}
use Rattle.hm_model.specs.declared.object.Contents.{Contents}
use Rattle.hm_model.specs.declared.object.Start.{Start}
use Rattle.hm_model.specs.declared.object.Field.TheVariants.{Number, Refer}
use Rattle.hm_model.specs.declared.entry.Tried.TheVariants.{Stored, Changed}
use Rattle.hm_model.specs.declared.entry.Entry.{Entry}
use Rattle.hm_model.specs.declared.entry.Entry.TheVariants.{Create, Fetch, Store, StoreIf}
use Rattle.hm_model.specs.Store.{PlainStore, contents_of, with_changed}
use Rattle.hm_model.specs.Effect.{caller_of, effect_of, new_contents, with_field, with_all}
use Rattle.hm_model.specs.History.{store_after, store_of, opening_of, calls_of}
use Rattle.hm_model.specs.Lawful.{MayCome, AllCome, IsLawful}
use Rattle.hm_model.proofs.StoreFacts.{contents_of-push, contents_of-changed, contents_of-changed_other}
use Rattle.hm_model.proofs.HistoryFacts.{store_after-append}
use Rattle.hm_book.specs.declared.limits.Limits.{Limits}
use Rattle.hm_agreement.specs.Cells.{board_name}
use Rattle.hm_agreement.specs.Agreed.{IsLawfulBook, IsAllowedBook}
use Rattle.hm_agreement.specs.Spelled.{IsBookStart}
use Rattle.hm_agreement.specs.Told.{told_after, last_told, number_in, told_on}
use Rattle.hm_agreement.proofs.Agreeing.{board_other}
use Rattle.hm_agreement.proofs.BookStart.{opening_calls, start_is, book_start}

-- the board of a store has ten numbers, of which one is that which was told
pub record HasTold (s : PlainStore) (q told : ℕ) : Type 0 where
  pub board : Contents
  pub there : contents_of s board_name ≡ Some board
  pub ten : length board.numbers ≡ 10
  pub stands : slice_index board.numbers q ≡ told

-- an entry that tells the board nothing tells nothing among the calls of any caller
silent : (q : ℕ) (e : Entry) (told : ℕ) → told_after told e ≡ told → told ≡ fold told_after told (calls_of q (e ∷ []))
silent q e told none = go (caller_of e == q)
  where
    go : (b : Bool) → told ≡ fold told_after told (cond b (e ∷ []) [])
    go true = sym none
    go false = refl

-- what was told stands on the board of a store that has the same board
told_kept : (s t : PlainStore) (q : ℕ) (e : Entry) (told : ℕ) → told_after told e ≡ told
    → ((x : Contents) → contents_of s board_name ≡ Some x → contents_of t board_name ≡ Some x)
    → HasTold s q told → HasTold t q (fold told_after told (calls_of q (e ∷ [])))
told_kept s t q e told none same h =
    subst (HasTold t q) (silent q e told none)
    record { board = h.board; there = same h.board h.there; ten = h.ten; stands = h.stands }

-- a number that its caller stores on the board is what that caller told
told_stored : (s : PlainStore) (q r value told : ℕ) → q < 10 → HasTold s q told
    → HasTold (with_changed (with_field (Number r value)) board_name s) q
    (fold told_after told (calls_of q (Store r board_name (Number r value) ∷ [])))
told_stored s q r value told within h = record {
  board = with_field (Number r value) h.board;
  there = contents_of-changed (with_field (Number r value)) board_name s
      ∙ ap (option_map (with_field (Number r value))) h.there;
  ten = length-set h.board.numbers r value ∙ h.ten;
  stands = go (r == q) refl;
}
  where
    go : (b : Bool) → (r == q) ≡ b → slice_index (set h.board.numbers r value) q
        ≡ fold told_after told (cond b (Store r board_name (Number r value) ∷ []) [])
    go true is =
        let same : r ≡ q = eqb-true r q is in
        let inside : q < length h.board.numbers = omega (arith, h.ten) in
        subst (λ (k : ℕ). slice_index (set h.board.numbers k value) q ≡ value) (sym same)
        (get_or-set_same h.board.numbers q value 0 inside)
    go false is =
        let other : q ≢ r = λ e. eqb-false r q is (sym e) in
        get_or-set_other h.board.numbers r q value 0 other ∙ h.stands

module _ (limits : Limits) (lengths : List ℕ) where
  -- an entry that comes leaves on the board what its caller told
  told_entered : (q : ℕ) (s : PlainStore) (e : Entry) (told : ℕ) → q < 10
      → MayCome IsLawfulBook (IsAllowedBook limits lengths) s e → HasTold s q told
      → HasTold (effect_of s e) q (fold told_after told (calls_of q (e ∷ [])))
  told_entered q s (Create r n refs numbers) told within h was =
      told_kept s (s ++ (n, new_contents refs numbers) ∷ []) q (Create r n refs numbers) told refl
      (λ x there. contents_of-push s (n, new_contents refs numbers) board_name x there) was
  told_entered q s (Fetch r n answer) told within h was =
      told_kept s s q (Fetch r n answer) told refl (λ x there. there) was
  told_entered q s (Store r n (Number i value)) told within h was =
      let at : Name → ℕ → Type 0 = λ m k. HasTold (with_changed (with_field (Number k value)) m s) q
      (fold told_after told (calls_of q (Store r m (Number k value) ∷ []))) in
      subst (λ (m : Name). at m i) (sym h.entry.0)
      (subst (λ (k : ℕ). at board_name k) (sym h.entry.1) (told_stored s q r value told within was))
  told_entered q s (Store r n (Refer i value)) told within h was = absurd h.entry
  told_entered q s (StoreIf r n stamp refs numbers Stored) told within h was =
      let other : n ≢ board_name = λ e. board_other (sym e ∙ h.entry.0) in
      told_kept s (with_changed (with_all refs numbers) n s) q (StoreIf r n stamp refs numbers Stored) told refl
      (λ x there. contents_of-changed_other (with_all refs numbers) n board_name s other ∙ there) was
  told_entered q s (StoreIf r n stamp refs numbers (Changed found)) told within h was =
      told_kept s s q (StoreIf r n stamp refs numbers (Changed found)) told refl (λ x there. there) was

  -- entries that come leave there what their callers told last
  pub told_reached : (q : ℕ) (s : PlainStore) (es : List Entry) (told : ℕ) → q < 10
      → AllCome IsLawfulBook (IsAllowedBook limits lengths) s es → HasTold s q told
      → HasTold (store_after s es) q (fold told_after told (calls_of q es))
  told_reached q s [] told within h was = was
  told_reached q s (e ∷ es) told within h was =
      let mine : Entry → Bool = λ x. caller_of x == q in
      let next : ℕ = fold told_after told (calls_of q (e ∷ [])) in
      subst (HasTold (store_after s (e ∷ es)) q)
      (sym (ap (fold told_after told) (filter-append mine (e ∷ []) es)
      ∙ fold-append told_after told (calls_of q (e ∷ [])) (calls_of q es)))
      (told_reached q (effect_of s e) es next within h.1 (told_entered q s e told within h.0 was))

  -- nobody has told the board anything after the opening
  opening_told : (q : ℕ) (start : Start) → q < 10 → IsBookStart start
      → HasTold (store_of (opening_of start)) q (last_told (calls_of q (opening_of start)))
  opening_told q start within begins =
      subst (λ (x : Start). HasTold (store_of (opening_of x)) q (last_told (calls_of q (opening_of x))))
      (sym (start_is start begins))
      (subst (HasTold (store_of (opening_of book_start)) q) (sym (opening_calls last_told 0 refl refl q)) record {
        board = new_contents (replicate 4 None) (replicate 10 0);
        there = refl;
        ten = refl;
        stands = get_or-replicate 10 q 0 0 within;
      })

  -- after a lawful history the board tells what each caller told it last
  pub told_of_history : (start : Start) (history : List Entry) → IsBookStart start
      → IsLawful IsLawfulBook (IsAllowedBook limits lengths) start history → (q : ℕ) → q < 10
      → told_on (store_of history) q ≡ last_told (calls_of q history)
  told_of_history start history begins h q within =
      let rest = h.legal.rest in
      let opening = opening_of start in
      let mine : Entry → Bool = λ x. caller_of x == q in
      let store : store_of history ≡ store_after (store_of opening) rest =
      ap store_of h.legal.begins ∙ store_after-append [] opening rest in
      let last : last_told (calls_of q history) ≡ fold told_after (last_told (calls_of q opening)) (calls_of q rest) =
      ap (λ (es : List Entry). last_told (calls_of q es)) h.legal.begins
      ∙ (ap last_told (filter-append mine opening rest)
      ∙ fold-append told_after 0 (calls_of q opening) (calls_of q rest)) in
      let has = told_reached q (store_of opening) rest (last_told (calls_of q opening)) within h.come
      (opening_told q start within begins) in
      ap (λ (s : PlainStore). told_on s q) store ∙ (ap (number_in q) has.there ∙ (has.stands ∙ sym last))
