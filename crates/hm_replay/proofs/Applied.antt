-- How many orders all callers of a replay have applied.
use Rattle.std.proofs.Common.{◌≡◌, ℕ, suc, ◌+◌, ◌≤◌, ◌<◌, ◌==◌, Bool, true, false, cond, nat_le, List, [], ◌∷◌, length, Some, slice_get, get_or, refl, ap, ◌∙◌, subst, arith}
use Rattle.std.specs.List.{All, sum_by}
use Rattle.std.proofs.lemmas.Bool.Decides.{nat_tests}
use Rattle.std.proofs.lemmas.List.Elements.{All-head, All-tail, All-weaker}
use Rattle.std.proofs.lemmas.List.{length-take-le}
use Rattle.std.proofs.lemmas.Option.{get_or_from_slice_get, slice_get_within, slice_get-get_or, slice_get_read}
use Rattle.std.proofs.lemmas.List.Sums.{sum_by-cons}
use Rattle.hm_orders.specs.declared.order.Order.{Order}
use Rattle.hm_orders.specs.Interleaving.{part_of}
use Rattle.hm_model.specs.declared.entry.Entry.{Entry}
use Rattle.hm_agreement.specs.Spelled.{spelled}
use Rattle.hm_replay.specs.declared.conclusion.Came.{Came}
use Rattle.hm_replay.proofs.Files.{of_file}
use Rattle.hm_words.specs.declared.asked.Settings.{Settings}
use Rattle.hm_replay.specs.Concluding.{CameTo, HasEnded, HasFinished, HasStalled, HaveCome, WasFullAt}
use Rattle.hm_desk.specs.declared.desk.Worked.TheVariants.{Stalled}

-- how many orders are of the first k files
count_upto : ℕ → List Order → ℕ
count_upto k [] = 0
count_upto k (order ∷ orders) = cond (nat_le order.file k) 1 0 + count_upto k orders

-- an order that is taken in counts once
part_length : (b : Bool) (order : Order) (orders : List Order)
    → length (cond b (order ∷ orders) orders) ≡ cond b 1 0 + length orders
part_length true order orders = omega arith
part_length false order orders = omega arith

-- one file more has its part more
count_split : (k : ℕ) (orders : List Order)
    → count_upto (k + 1) orders ≡ count_upto k orders + length (part_of (k + 1) orders)
unfolding count_upto
count_split k [] = refl
count_split k (order ∷ orders) =
    let here : cond (nat_le order.file (k + 1)) 1 0
    ≡ cond (nat_le order.file k) 1 0 + cond (order.file == k + 1) 1 0 = grind (arith, nat_tests) in
    omega (arith, here, part_length (order.file == k + 1) order (part_of (k + 1) orders), count_split k orders)

-- none is of no file
count_none : (orders : List Order) → All (λ order. 0 < order.file) orders → count_upto 0 orders ≡ 0
unfolding count_upto
count_none [] h = refl
count_none (order ∷ orders) h =
    let P : Order → Type 0 = λ order. 0 < order.file in
    let some : 0 < order.file = All-head P order orders h in
    let here : ◌≡◌ {A = ℕ} (cond (nat_le order.file 0) 1 0) 0 = grind (arith, nat_tests) in
    omega (arith, here, count_none orders (All-tail P order orders h))

-- all are of the first n files
count_all : (n : ℕ) (orders : List Order) → All (λ order. order.file ≤ n) orders → count_upto n orders ≡ length orders
unfolding count_upto
count_all n [] h = refl
count_all n (order ∷ orders) h =
    let P : Order → Type 0 = λ order. order.file ≤ n in
    let few : order.file ≤ n = All-head P order orders h in
    let here : ◌≡◌ {A = ℕ} (cond (nat_le order.file n) 1 0) 1 = grind (arith, nat_tests) in
    omega (arith, here, count_all n orders (All-tail P order orders h))

-- the callers from one on have applied what the files from that one on have
next_sum : (came : List Came) (k : ℕ) (orders : List Order)
    → ((j : ℕ) (c : Came) → slice_get came j ≡ Some c → length (part_of (k + j + 1) orders) ≡ c.progress.next)
    → count_upto k orders + sum_by (λ c. c.progress.next) came ≡ count_upto (k + length came) orders
next_sum [] k orders h =
    let same : count_upto k orders ≡ count_upto (k + length {A = Came} []) orders =
    ap (λ (n : ℕ). count_upto n orders) (omega arith) in
    omega (arith, same)
next_sum (c ∷ came) k orders h =
    let part : ℕ → ℕ = λ n. length (part_of n orders) in
    let count : ℕ → ℕ = λ n. count_upto n orders in
    let one : part (k + 1) ≡ c.progress.next =
    ap {A = ℕ} part (omega arith) ∙ h 0 c refl in
    let sum = sum_by-cons (λ (c : Came). c.progress.next) c came in
    let rest : count (k + 1) + sum_by (λ c. c.progress.next) came ≡ count (k + 1 + length came) =
    next_sum came (k + 1) orders (λ j d is. ap {A = ℕ} part (omega arith) ∙ h (suc j) d is) in
    let same : count (k + 1 + length came) ≡ count (k + length (c ∷ came)) = ap {A = ℕ} count (omega arith) in
    omega (arith, one, count_split k orders, sum, rest, same)

module _ (settings : Settings) (files : List (List Order)) (history : List Entry) (came : List Came)
    (to : CameTo settings files history came) where
  -- a caller has a file
  pub file_of : (k : ℕ) (c : Came) → slice_get came k ≡ Some c
      → (orders : List Order) × (slice_get files k ≡ Some orders)
  file_of k c is =
      let within : k < length files = subst (λ (n : ℕ). k < n) to.count (slice_get_within came k c is) in
      (get_or files k [], slice_get-get_or files k [] within)

  -- a caller has applied as many orders as the history spells of its file
  part_next : (k : ℕ) (c : Came) → slice_get came k ≡ Some c
      → length (part_of (k + 1) (spelled history)) ≡ c.progress.next
  part_next k c is =
      let file = file_of k c is in
      let part = to.parts k file.0 c file.1 is in
      ap length part.applied ∙ length-take-le c.progress.next file.0 part.within

  -- all callers together have applied all orders
  pub all_applied : sum_by (λ c. c.progress.next) came ≡ length (spelled history)
  all_applied =
      let orders = spelled history in
      let P : Order → Type 0 = λ order. (0 < order.file) × (order.file ≤ length files) in
      let none = count_none orders (All-weaker P (λ order. 0 < order.file) (λ order h. h.0) orders to.others) in
      let all = count_all (length files) orders
      (All-weaker P (λ order. order.file ≤ length files) (λ order h. h.1) orders to.others) in
      let same : count_upto (0 + length came) orders ≡ count_upto (length files) orders =
      ap (λ (n : ℕ). count_upto n orders) (omega (arith, to.count)) in
      let sum = next_sum came 0 orders
      (λ j c is. ap (λ (n : ℕ). length (part_of n orders)) (omega arith) ∙ part_next j c is) in
      omega (arith, none, all, same, sum)

  -- each has applied at most as many as a file has
  pub few_applied : (k : ℕ) (c : Came) → slice_get came k ≡ Some c → c.progress.next ≤ 1000000
  few_applied k c is =
      let file = file_of k c is in
      let within = (to.parts k file.0 c file.1 is).within in
      let most = (of_file files to.are k file.0 file.1).most in omega (arith, within, most)

-- there are at most eight callers, and each has applied at most a million orders
pub few_callers : (came : List Came) → HaveCome came → length came ≤ 8
few_callers came h = let count = h.3.count in let few = h.3.are.few in omega (arith, count, few)

pub few_orders : (came : List Came) → HaveCome came → (i : ℕ) (c : Came) → i < length came
    → c ≡ get_or came i c → c.progress.next ≤ 1000000
few_orders came h i c within is =
    few_applied h.0 h.1 h.2 came h.3 i c (slice_get_read came (length came) i c refl within is)

-- a caller that stalled tells that its heap was full
pub full_at : (settings : Settings) (files : List (List Order)) (history : List Entry) (came : List Came)
    → CameTo settings files history came
    → (k used free at : ℕ) (c : Came) → k < length came → c ≡ get_or came k c → c.worked ≡ Stalled at used free
    → (root : ℕ) → root ≡ length (spelled history)
    → WasFullAt settings.versions files history
    record { caller = k; settling = false; settled = root; root = root; used = used; free = free }
full_at settings files history came to k used free at c within is stalled root all =
    let there = slice_get_read came (length came) k c refl within is in
    let file = file_of settings files history came to k c there in
    let part = to.parts k file.0 c file.1 there in
    record {
      caller = subst (λ (n : ℕ). k < n) to.count within;
      settling = refl;
      root = all;
      settled = refl;
      used = subst (HasEnded settings.versions file.0 c.progress.next c.progress.told) stalled part.ended;
    }

-- and it is the one that stalled, behind callers that have finished
pub stalled_at : (came : List Came) (k used free at : ℕ) (c : Came) → k < length came → c ≡ get_or came k c
    → c.worked ≡ Stalled at used free
    → ((i : ℕ) (d : Came) → i < k → HasFinished (get_or came i d))
    → (root : ℕ)
    → HasStalled came record { caller = k; settling = false; settled = root; root = root; used = used; free = free }
stalled_at came k used free at c within is stalled before root = record {
  its = c;
  here = slice_get_read came (length came) k c refl within is;
  place = at;
  worked = stalled;
  before = λ i d low here. subst HasFinished (get_or_from_slice_get came i d d here) (before i d low);
}
