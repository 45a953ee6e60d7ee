-- Of a lawful history the orders of each file are those that the file's caller spelled.
use Rattle.std.proofs.Common.{◌≡◌, ℕ, ◌+◌, ◌<◌, ◌≤◌, ◌==◌, Bool, true, false, cond, List, [], ◌∷◌, ◌++◌, length, refl, sym, ap, ◌∙◌, subst, arith}
use Rattle.std.specs.List.{All}
use Rattle.std.proofs.lemmas.Bool.Decides.{nat_tests}
use Rattle.std.proofs.lemmas.List.Elements.{filter-append, All-nil, All-cons, All-head, All-tail, All-append, All-drop}
use Rattle.std.proofs.Math.Seq.{drop-append_seam}
use Rattle.hm_orders.specs.declared.order.Order.{Order}
use Rattle.hm_orders.specs.Interleaving.{part_of}
use Rattle.hm_model.specs.declared.object.Name.{Name}
use Rattle.hm_model.specs.declared.object.Start.{Start}
use Rattle.hm_model.specs.declared.entry.Tried.TheVariants.{Stored, Changed}
use Rattle.hm_model.specs.declared.entry.Entry.{Entry}
use Rattle.hm_model.specs.declared.entry.Entry.TheVariants.{Create, Fetch, Store, StoreIf}
use Rattle.hm_model.specs.Store.{Refs, Numbers, PlainStore}
use Rattle.hm_model.specs.Effect.{caller_of, effect_of}
use Rattle.hm_model.specs.History.{store_of, opening_of, calls_of, AreOthers}
use Rattle.hm_model.specs.Lawful.{MayCome, AllCome, IsLawful}
use Rattle.hm_book.specs.declared.limits.Limits.{Limits}
use Rattle.hm_agreement.specs.Agreed.{IsLawfulBook, IsAllowedBook}
use Rattle.hm_agreement.specs.Spelled.{order_in, spelled, IsBookStart}
use Rattle.hm_agreement.proofs.BookStart.{opening_calls, start_is, spelled_opening}
use Rattle.hm_agreement.proofs.SpelledRun.{spelled-append}

-- an entry that spells nothing spells nothing among the calls of any caller
silent : (q : ℕ) (e : Entry) → spelled (e ∷ []) ≡ [] → [] ≡ spelled (calls_of q (e ∷ []))
silent q e none = go (caller_of e == q)
  where
    go : (b : Bool) → [] ≡ spelled (cond b (e ∷ []) [])
    go true = sym none
    go false = refl

-- one that spells an order of its caller's file spells it among that caller's calls alone
speaks : (q : ℕ) (e : Entry) (order : Order) → spelled (e ∷ []) ≡ order ∷ [] → order.file ≡ caller_of e + 1
    → part_of (q + 1) (spelled (e ∷ [])) ≡ spelled (calls_of q (e ∷ []))
speaks q e order one of =
    let r : ℕ = caller_of e in
    let same : (order.file == q + 1) ≡ (r == q) = grind (arith, nat_tests) in
    ap (part_of (q + 1)) one
    ∙ (ap (λ (b : Bool). cond b (order ∷ []) []) same ∙ go (r == q))
  where
    go : (b : Bool) → cond b (order ∷ []) [] ≡ spelled (cond b (e ∷ []) [])
    go true = sym one
    go false = refl

-- the orders are of the first files
abbrev pub AreOfFiles : ℕ → List Order → Type 0
AreOfFiles n orders = All (λ order. (0 < order.file) × (order.file ≤ n)) orders

module _ (limits : Limits) (lengths : List ℕ) where
  -- what an entry that comes spells, where it spells an order
  record Spells (e : Entry) : Type 0 where
    pub order : Order
    pub one : spelled (e ∷ []) ≡ order ∷ []
    pub of : order.file ≡ caller_of e + 1

  -- a stored order is of its caller's file
  stored : (s : PlainStore) (q : ℕ) (n : Name) (stamp : ℕ) (refs : Refs) (numbers : Numbers)
      → MayCome IsLawfulBook (IsAllowedBook limits lengths) s (StoreIf q n stamp refs numbers Stored)
      → Spells (StoreIf q n stamp refs numbers Stored)
  stored s q n stamp refs numbers h = record {
    order = order_in numbers;
    one = ap (λ (m : Name). spelled (StoreIf q m stamp refs numbers Stored ∷ [])) h.entry.0;
    of = (h.entry.1).holds.file ∙ (h.entry.1).file;
  }

  -- an entry that comes spells an order of its caller's file, or none
  part_entered : (q : ℕ) (s : PlainStore) (e : Entry) → MayCome IsLawfulBook (IsAllowedBook limits lengths) s e
      → part_of (q + 1) (spelled (e ∷ [])) ≡ spelled (calls_of q (e ∷ []))
  part_entered q s (Create r n refs numbers) h = silent q (Create r n refs numbers) refl
  part_entered q s (Fetch r n answer) h = silent q (Fetch r n answer) refl
  part_entered q s (Store r n field) h = silent q (Store r n field) refl
  part_entered q s (StoreIf r n stamp refs numbers Stored) h =
      let o = stored s r n stamp refs numbers h in
      speaks q (StoreIf r n stamp refs numbers Stored) o.order o.one o.of
  part_entered q s (StoreIf r n stamp refs numbers (Changed found)) h =
      silent q (StoreIf r n stamp refs numbers (Changed found)) refl

  -- of entries that come, the orders of a file are those that its caller spelled
  pub part_spelled : (q : ℕ) (s : PlainStore) (es : List Entry) → AllCome IsLawfulBook (IsAllowedBook limits lengths) s es
      → part_of (q + 1) (spelled es) ≡ spelled (calls_of q es)
  part_spelled q s [] h = refl
  part_spelled q s (e ∷ es) h =
      let own : Order → Bool = λ order. order.file == q + 1 in
      let mine : Entry → Bool = λ x. caller_of x == q in
      let one = part_entered q s e h.0 in
      let rest = part_spelled q (effect_of s e) es h.1 in
      ap (part_of (q + 1)) (spelled-append (e ∷ []) es)
      ∙ (filter-append own (spelled (e ∷ [])) (spelled es)
      ∙ ((λ i. one i ++ rest i)
      ∙ sym (ap spelled (filter-append mine (e ∷ []) es)
      ∙ spelled-append (calls_of q (e ∷ [])) (calls_of q es))))

  -- so entries of others spell none of its orders
  pub part_others : (q : ℕ) (s : PlainStore) (es : List Entry) → AllCome IsLawfulBook (IsAllowedBook limits lengths) s es
      → AreOthers q es → part_of (q + 1) (spelled es) ≡ []
  part_others q s es h others = part_spelled q s es h ∙ ap spelled others

  -- an entry of one of the first callers spells orders of the first files
  files_entered : (n : ℕ) (s : PlainStore) (e : Entry) → MayCome IsLawfulBook (IsAllowedBook limits lengths) s e
      → caller_of e < n → AreOfFiles n (spelled (e ∷ []))
  files_entered n s (Create r m refs numbers) h within = All-nil (λ order. (0 < order.file) × (order.file ≤ n))
  files_entered n s (Fetch r m answer) h within = All-nil (λ order. (0 < order.file) × (order.file ≤ n))
  files_entered n s (Store r m field) h within = All-nil (λ order. (0 < order.file) × (order.file ≤ n))
  files_entered n s (StoreIf r m stamp refs numbers Stored) h within =
      let o = stored s r m stamp refs numbers h in
      let P : Order → Type 0 = λ order. (0 < order.file) × (order.file ≤ n) in
      let of : o.order.file ≡ r + 1 = o.of in
      subst (AreOfFiles n) (sym o.one) (All-cons P o.order [] (omega arith, omega arith) (All-nil P))
  files_entered n s (StoreIf r m stamp refs numbers (Changed found)) h within =
      All-nil (λ order. (0 < order.file) × (order.file ≤ n))

  -- so do all that come of the first callers
  pub files_spelled : (n : ℕ) (s : PlainStore) (es : List Entry) → AllCome IsLawfulBook (IsAllowedBook limits lengths) s es
      → All (λ e. caller_of e < n) es → AreOfFiles n (spelled es)
  files_spelled n s [] h within = All-nil (λ order. (0 < order.file) × (order.file ≤ n))
  files_spelled n s (e ∷ es) h within =
      let P : Order → Type 0 = λ order. (0 < order.file) × (order.file ≤ n) in
      let below : Entry → Type 0 = λ x. caller_of x < n in
      subst (AreOfFiles n) (sym (spelled-append (e ∷ []) es))
      (All-append P (spelled (e ∷ [])) (spelled es)
      (files_entered n s e h.0 (All-head below e es within))
      (files_spelled n (effect_of s e) es h.1 (All-tail below e es within)))

  -- a history spells what its entries after the opening do
  history_spells : (start : Start) (history rest : List Entry) → IsBookStart start → history ≡ opening_of start ++ rest
      → spelled history ≡ spelled rest
  history_spells start history rest begins h =
      ap spelled h ∙ (spelled-append (opening_of start) rest
      ∙ ap (λ (orders : List Order). orders ++ spelled rest) (spelled_opening start begins))

  -- the opening spells nothing among the calls of any caller
  opening_silent : (q : ℕ) (start : Start) → IsBookStart start → spelled (calls_of q (opening_of start)) ≡ []
  opening_silent q start begins =
      ap (λ (x : Start). spelled (calls_of q (opening_of x))) (start_is start begins)
      ∙ opening_calls spelled [] refl refl q

  -- of a lawful history the orders of a file are those that its caller spelled
  pub part_of_history : (q : ℕ) (start : Start) (history : List Entry) → IsBookStart start
      → IsLawful IsLawfulBook (IsAllowedBook limits lengths) start history
      → part_of (q + 1) (spelled history) ≡ spelled (calls_of q history)
  part_of_history q start history begins h =
      let rest = h.legal.rest in
      let opening = opening_of start in
      let mine : Entry → Bool = λ x. caller_of x == q in
      let split : spelled (calls_of q history) ≡ spelled (calls_of q rest) =
      ap (λ (es : List Entry). spelled (calls_of q es)) h.legal.begins
      ∙ (ap spelled (filter-append mine opening rest)
      ∙ (spelled-append (calls_of q opening) (calls_of q rest)
      ∙ ap (λ (orders : List Order). orders ++ spelled (calls_of q rest)) (opening_silent q start begins))) in
      ap (part_of (q + 1)) (history_spells start history rest begins h.legal.begins)
      ∙ (part_spelled q (store_of opening) rest h.come ∙ sym split)

  -- and all of them are of the files of its callers
  pub files_of_history : (n : ℕ) (start : Start) (history : List Entry) → IsBookStart start
      → IsLawful IsLawfulBook (IsAllowedBook limits lengths) start history → All (λ e. caller_of e < n) history
      → AreOfFiles n (spelled history)
  files_of_history n start history begins h within =
      let rest = h.legal.rest in
      let below : Entry → Type 0 = λ x. caller_of x < n in
      subst (AreOfFiles n) (sym (history_spells start history rest begins h.legal.begins))
      (files_spelled n (store_of (opening_of start)) rest h.come
      (subst (All below) (drop-append_seam (opening_of start) rest)
      (All-drop below (length (opening_of start)) (opening_of start ++ rest)
      (subst (All below) h.legal.begins within))))
