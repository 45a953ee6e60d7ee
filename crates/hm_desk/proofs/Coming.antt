-- How far a caller has come stays while it goes on, and grows with each order.
use Rattle.std.proofs.Common.{◌≡◌, ◌⊎◌, ℕ, ◌+◌, ◌==◌, ◌≤◌, List, [], ◌∷◌, ◌++◌, All, length, take, refl, sym, ap, ◌∙◌, subst, append-nil, arith}
use Rattle.std.proofs.lemmas.List.{take-append-le}
use Rattle.std.proofs.lemmas.List.Elements.{All-head, All-tail, All-nil, All-cons, All-filter}
use Rattle.std.proofs.lemmas.List.Sums.{fold-append}
use Rattle.hm_orders.specs.declared.order.Order.{Order}
use Rattle.hm_orders.specs.declared.report.Done.{Done}
use Rattle.hm_orders.specs.Interleaving.{dones_part, part_of}
use Rattle.hm_model.specs.declared.entry.Entry.{Entry}
use Rattle.hm_model.specs.Sight.{Sight, Goes}
use Rattle.hm_model.specs.Tending.{KeepsNames}
use Rattle.hm_book.specs.declared.limits.Limits.{Limits}
use Rattle.hm_book.specs.Run.{BookState, done_of, dones_of, empty_state, state_after, state_after_all}
use Rattle.hm_book.proofs.Parts.{dones_of-append, dones_part-append, dones_part-none}
use Rattle.hm_agreement.specs.Spelled.{spelled}
use Rattle.hm_agreement.specs.Told.{last_told, told_after}
use Rattle.hm_agreement.proofs.SpelledRun.{spelled-append}
use Rattle.hm_agreement.proofs.Parts.{part_spelled}
use Rattle.hm_cellbook.specs.declared.usage.BookUsage.{BookUsage}
use Rattle.hm_cellbook.specs.Fetched.{book_allowed, book_lawful}
use Rattle.hm_desk.specs.declared.progress.Progress.{Progress}
use Rattle.hm_desk.specs.Progress.{HasCome, dones_seen, last_root, state_seen}
use Rattle.hm_desk.specs.Working.{GoesQuietly, IsAtDesk, IsAtWork}
use Rattle.hm_desk.proofs.Quiet.{desk_names, own_goes, quiet_names}

-- each order counts
pub applied_all : (limits : Limits) (state : BookState) (orders : List Order)
    → (state_after_all limits state orders).applied ≡ state.applied + length orders
applied_all limits state [] = omega arith
applied_all limits state (x ∷ xs) = omega (arith, applied_all limits (state_after limits state x) xs)

-- no root number is past the number of orders
roots_within : (limits : Limits) (state : BookState) (orders : List Order) (most : ℕ)
    → state.applied + length orders ≤ most → All (λ done. done.root ≤ most) (dones_of limits state orders)
roots_within limits state [] most h = All-nil (λ (done : Done). done.root ≤ most)
roots_within limits state (x ∷ xs) most h =
    All-cons (λ (done : Done). done.root ≤ most) (done_of limits state x)
    (dones_of limits (state_after limits state x) xs) (omega arith)
    (roots_within limits (state_after limits state x) xs most (omega arith))

last_within : (most : ℕ) (dones : List Done) → All (λ done. done.root ≤ most) dones → last_root dones ≤ most
last_within most [] h = omega arith
last_within most (done ∷ []) h = All-head (λ (d : Done). d.root ≤ most) done [] h
last_within most (done ∷ (next ∷ dones)) h =
    last_within most (next ∷ dones) (All-tail (λ (d : Done). d.root ≤ most) done (next ∷ dones) h)

-- the last of more orders
pub last_root-append : (dones : List Done) (done : Done) → last_root (dones ++ done ∷ []) ≡ done.root
last_root-append [] done = refl
last_root-append (x ∷ []) done = refl
last_root-append (x ∷ (next ∷ dones)) done = last_root-append (next ∷ dones) done

-- the root number of a file's last order is within what was spelled
pub root_seen : (limits : Limits) (file : ℕ) (seen : List Entry)
    → last_root (dones_part file (dones_seen limits seen)) ≤ length (spelled seen)
root_seen limits file seen =
    last_within (length (spelled seen)) _
    (All-filter (λ (done : Done). done.file == file) (λ (done : Done). done.root ≤ length (spelled seen)) _
    (roots_within limits empty_state (spelled seen) (length (spelled seen)) (omega arith)))

-- what became of the orders of a file, where more entries spell none of it
dones_more : (limits : Limits) (file : ℕ) (seen more : List Entry) → part_of file (spelled more) ≡ []
    → dones_part file (dones_seen limits (seen ++ more)) ≡ dones_part file (dones_seen limits seen)
dones_more limits file seen more none =
    let state = state_after_all limits empty_state (spelled seen) in
    ap (λ (orders : List Order). dones_part file (dones_of limits empty_state orders)) (spelled-append seen more)
    ∙ (ap (dones_part file) (dones_of-append limits empty_state (spelled seen) (spelled more))
    ∙ (dones_part-append file (dones_seen limits seen) (dones_of limits state (spelled more))
    ∙ (ap (λ (dones : List Done). dones_part file (dones_seen limits seen) ++ dones)
    (dones_part-none file limits state (spelled more) none)
    ∙ append-nil (dones_part file (dones_seen limits seen)))))

-- the first orders stay the first
state_more : (limits : Limits) (n : ℕ) (seen more : List Entry) → n ≤ length (spelled seen)
    → state_seen limits n (seen ++ more) ≡ state_seen limits n seen
state_more limits n seen more h =
    ap (λ (orders : List Order). state_after_all limits empty_state (take n orders)) (spelled-append seen more)
    ∙ ap (state_after_all limits empty_state) (take-append-le n (spelled seen) (spelled more) h)

-- a caller has come as far where its further entries spell no order, but for what it told
module _ (c d : Sight BookUsage) (orders : List Order) (p : Progress) (own : List Entry) (come : HasCome c orders p)
    (goes : Goes book_lawful book_allowed c d own) (none : spelled own ≡ []) where
  still_applied : spelled d.mine ≡ take p.next orders
  still_applied =
      ap spelled goes.mine ∙ (spelled-append c.mine own
      ∙ (ap (λ (l : List Order). spelled c.mine ++ l) none ∙ (append-nil (spelled c.mine) ∙ come.applied)))

  none_of_file : part_of (c.number + 1) (spelled goes.more) ≡ []
  none_of_file =
      part_spelled c.usage.limits c.usage.lengths c.number _ goes.more goes.come
      ∙ (ap spelled goes.calls ∙ none)

  still_done : p.done ≡ dones_part (d.number + 1) (dones_seen d.usage.limits d.seen)
  still_done =
      come.done
      ∙ (sym (dones_more c.usage.limits (c.number + 1) c.seen goes.more none_of_file)
      ∙ sym (λ i. dones_part (goes.caller.number i + 1) (dones_seen (goes.caller.usage i).limits (goes.seen i))))

  still_resting : p.resting ≡ length (state_seen d.usage.limits (last_root p.done) d.seen).book
  still_resting =
      let within : last_root p.done ≤ length (spelled c.seen) =
      subst (λ (dones : List Done). last_root dones ≤ length (spelled c.seen)) (sym come.done)
      (root_seen c.usage.limits (c.number + 1) c.seen) in
      come.resting
      ∙ (sym (ap (λ (s : BookState). length s.book) (state_more c.usage.limits (last_root p.done) c.seen goes.more within))
      ∙ sym (λ i. length (state_seen (goes.caller.usage i).limits (last_root p.done) (goes.seen i)).book))

  pub come_told : (told : ℕ) → told ≡ last_told d.mine → (told ≡ p.next) ⊎ (told + 1 ≡ p.next)
      → HasCome d orders (record p { told = told })
  come_told told is owed = record {
    within = come.within;
    applied = still_applied;
    done = still_done;
    told = is;
    owed = owed;
    resting = still_resting;
  }

-- a caller has come as far where it goes on quietly
pub come_quietly : (c d : Sight BookUsage) (orders : List Order) (p : Progress) → HasCome c orders p
    → GoesQuietly c d → HasCome d orders p
come_quietly c d orders p come h =
    let same : last_told d.mine ≡ last_told c.mine =
    ap last_told h.goes.mine ∙ (fold-append told_after 0 c.mine h.own ∙ h.told (last_told c.mine)) in
    come_told c d orders p h.own come h.goes h.orders p.told (come.told ∙ sym same) come.owed

-- and is still at work where it is still at its desk
pub work_quietly : (c d : Sight BookUsage) (orders : List Order) (p : Progress) → IsAtWork c orders p
    → GoesQuietly c d → IsAtDesk d → IsAtWork d orders p
work_quietly c d orders p h quiet desk = record {
  desk = desk;
  own = own_goes c d orders quiet.goes.caller h.own;
  come = come_quietly c d orders p h.come quiet;
}

-- so it is where it tends
pub work_names : (c d : Sight BookUsage) (orders : List Order) (p : Progress) → IsAtWork c orders p → KeepsNames c d
    → IsAtWork d orders p
work_names c d orders p h same = work_quietly c d orders p h (quiet_names c d same) (desk_names c d h.desk same)
