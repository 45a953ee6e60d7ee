-- What hinders a caller.
use Rattle.std.proofs.Common.{◌≡◌, ℕ, ◌<◌, ◌≤◌, Bool, true, false, List, [], ◌∷◌, ◌++◌, ◌⊎◌, inl, inr, Some, Result, Ok, Err, IfErr, OnOk, length, refl, sym, ap, ◌∙◌, subst, append_assoc, append-nil, arith, get_or}
use Rattle.std.specs.List.{slice_get}
use Rattle.std.proofs.lemmas.List.Elements.{All-append, All-cons, All-nil}
use Rattle.std.proofs.lemmas.Option.{slice_get-get_or}
use Rattle.hm_orders.specs.declared.order.Order.{Order}
use Rattle.hm_model.specs.declared.entry.Tried.TheVariants.{Changed}
use Rattle.hm_model.specs.declared.entry.Entry.{Entry}
use Rattle.hm_model.specs.declared.entry.Entry.TheVariants.{Fetch, StoreIf}
use Rattle.hm_model.specs.declared.root.Snapshot.{Snapshot}
use Rattle.hm_model.specs.Sight.{Sight, IsSameCaller}
use Rattle.hm_agreement.specs.Cells.{book_name}
use Rattle.hm_agreement.specs.Told.{last_told}
use Rattle.hm_cellbook.specs.declared.usage.BookUsage.{BookUsage}
use Rattle.hm_cellbook.specs.Fetched.{fetched_contents}
use Rattle.hm_cellbook.proofs.Fetching.{has_book_goes}
use Rattle.hm_cellbook.specs.declared.attempt.AttemptRefused.{AttemptRefused}
use Rattle.hm_cellbook.specs.declared.attempt.AttemptRefused.TheVariants as refusal
use Rattle.hm_desk.specs.declared.halt.Halt.{Halt}
use Rattle.hm_desk.specs.declared.halt.Halt.TheVariants as halt
use Rattle.hm_desk.specs.Stalling.{IfFull}
use Rattle.hm_desk.specs.declared.applying.Tried.TheVariants as tried
use Rattle.hm_desk.specs.Working.{GoesOn, GoesQuietly, book_stamp, tried_refused}
use Rattle.hm_desk.specs.Hindered.{AttemptsNothing, BeginsAt, FetchesBook, FetchesCommon, FindsGreater, IsHindered, Settles, TakesCost, TakesFew, WasOvertaken, cost_on}
use Rattle.hm_desk.specs.Hindered.IsHindered.{copied, full, dear, overtaken}

-- what hindered a caller hindered it later on
pub hindered_goes : (spare : ℕ) (orders : List Order) (next : ℕ) (c d f : Sight BookUsage)
    → IsHindered spare orders next c d → GoesOn d f → IsHindered spare orders next c f
hindered_goes spare orders next c d f (copied h) on = copied h
hindered_goes spare orders next c d f (full h) on = full h
hindered_goes spare orders next c d f (dear h) on = dear record {
  order = h.order;
  is_next = h.is_next;
  before = h.before;
  first = h.first;
  told = h.told;
  answer = h.answer;
  after = h.after ++ on.own;
  mine = on.goes.mine ∙ (ap (λ (l : List Entry). l ++ on.own) h.mine
      ∙ (append_assoc c.mine (h.before ++ Fetch c.number book_name h.answer ∷ h.after) on.own
      ∙ ap (λ (l : List Entry). c.mine ++ l)
      (append_assoc h.before (Fetch c.number book_name h.answer ∷ h.after) on.own)));
  book = h.book;
  has = has_book_goes d f on.own h.answer h.book on.goes h.has;
  more = h.more;
}
hindered_goes spare orders next c d f (overtaken h) on =
    let e : Entry = StoreIf c.number book_name h.stamp h.refs h.numbers (Changed h.found) in
    let start : Entry = Fetch c.number book_name h.answer in
    overtaken record {
      answer = h.answer;
      between = h.between;
      stamp = h.stamp;
      refs = h.refs;
      numbers = h.numbers;
      found = h.found;
      after = h.after ++ on.own;
      mine = on.goes.mine ∙ (ap (λ (l : List Entry). l ++ on.own) h.mine
          ∙ (append_assoc c.mine (start ∷ (h.between ++ e ∷ h.after)) on.own
          ∙ ap (λ (l : List Entry). c.mine ++ start ∷ l) (append_assoc h.between (e ∷ h.after) on.own)));
      above = h.above;
      seen = h.seen;
    }

-- an attempt that found no room was dear, or its caller copied
pub attempt_dear : (orders : List Order) (next : ℕ) (order : Order) (c d f : Sight BookUsage) (at : Snapshot)
    → slice_get orders next ≡ Some order → last_told c.mine ≡ next → GoesQuietly c d → FetchesBook c d at → GoesQuietly d f
    → TakesCost d f at order → f.room ≡ 0 → IsHindered 1 orders next c f
attempt_dear orders next order c d f at is told first fetches then takes empty = go c.copying refl
  where
    go : (b : Bool) → c.copying ≡ b → IsHindered 1 orders next c f
    go true copies = copied copies
    go false still =
        let room = fetches.room still in
        let taken = takes.room (fetches.copying ∙ still) in
        let same : cost_on d order (fetched_contents d at) takes.book ≡ cost_on c order (fetched_contents d at) takes.book =
        ap (λ (u : BookUsage). cost_on (record c { usage = u }) order (fetched_contents d at) takes.book)
        first.goes.caller.usage in
        dear record {
          order = order;
          is_next = is;
          before = [];
          first = All-nil AttemptsNothing;
          told = ap last_told (append-nil c.mine) ∙ told;
          answer = fetched_contents d at;
          after = then.own;
          mine = then.goes.mine ∙ (ap (λ (l : List Entry). l ++ then.own) fetches.mine
              ∙ append_assoc c.mine (Fetch c.number book_name (fetched_contents d at) ∷ []) then.own);
          book = takes.book;
          has = has_book_goes d f then.own (fetched_contents d at) takes.book then.goes takes.has;
          more = omega arith;
        }

-- one that found the common object changed was overtaken
pub attempt_overtaken : (c d f e : Sight BookUsage) (at : Snapshot) → GoesQuietly c d → FetchesBook c d at
    → GoesQuietly d f → FindsGreater f e at.stamp → book_stamp c ≤ at.stamp → WasOvertaken c e
attempt_overtaken c d f e at first fetches then finds seen =
    let number : f.number ≡ c.number = then.goes.caller.number ∙ first.goes.caller.number in
    let start : Entry = Fetch c.number book_name (fetched_contents d at) in
    let last : ℕ → Entry = λ q. StoreIf q book_name at.stamp finds.refs finds.numbers (Changed finds.found) in
    record {
      answer = fetched_contents d at;
      between = then.own;
      stamp = at.stamp;
      refs = finds.refs;
      numbers = finds.numbers;
      found = finds.found;
      after = [];
      mine = finds.mine ∙ (ap (λ (l : List Entry). l ++ last f.number ∷ []) (then.goes.mine
          ∙ (ap (λ (l : List Entry). l ++ then.own) fetches.mine ∙ append_assoc c.mine (start ∷ []) then.own))
          ∙ (append_assoc c.mine (start ∷ then.own) (last f.number ∷ [])
          ∙ ap (λ (q : ℕ). c.mine ++ start ∷ (then.own ++ last q ∷ [])) number));
      above = finds.above;
      seen = seen;
    }

-- a caller that was overtaken after it told what it owed was overtaken from the start
overtaken_later : (c d f : Sight BookUsage) → IsSameCaller c d → book_stamp c ≤ book_stamp d → WasOvertaken d f
    → (own : List Entry) → d.mine ≡ c.mine ++ own → BeginsAt c d own → WasOvertaken c f
overtaken_later c d f same rises h [] is begins =
    let start : ℕ → Entry = λ q. Fetch q book_name h.answer in
    let last : ℕ → Entry = λ q. StoreIf q book_name h.stamp h.refs h.numbers (Changed h.found) in
    record {
      answer = h.answer;
      between = h.between;
      stamp = h.stamp;
      refs = h.refs;
      numbers = h.numbers;
      found = h.found;
      after = h.after;
      mine = h.mine ∙ (λ i. (is ∙ append-nil c.mine) i ++ start (same.number i)
          ∷ (h.between ++ last (same.number i) ∷ h.after));
      above = h.above;
      seen = let later = h.seen in omega arith;
    }
overtaken_later c d f same rises h (e ∷ own) is begins =
    let start : ℕ → Entry = λ q. Fetch q book_name h.answer in
    let last : ℕ → Entry = λ q. StoreIf q book_name h.stamp h.refs h.numbers (Changed h.found) in
    let rest : List Entry = start c.number ∷ (h.between ++ last c.number ∷ h.after) in
    record {
      answer = begins.0;
      between = own ++ start c.number ∷ h.between;
      stamp = h.stamp;
      refs = h.refs;
      numbers = h.numbers;
      found = h.found;
      after = h.after;
      mine = h.mine ∙ ((λ i. is i ++ start (same.number i) ∷ (h.between ++ last (same.number i) ∷ h.after))
          ∙ (append_assoc c.mine (e ∷ own) rest
          ∙ (ap (λ (x : Entry). c.mine ++ x ∷ (own ++ rest)) begins.1
          ∙ ap (λ (l : List Entry). c.mine ++ Fetch c.number book_name begins.0 ∷ l)
          (sym (append_assoc own (start c.number ∷ h.between) (last c.number ∷ h.after))))));
      above = let low = begins.3 in let later = h.seen in let more = h.above in omega arith;
      seen = begins.2;
    }

-- what hinders a caller after it told what it owed hindered it from the start
pub settled_hindered : (orders : List Order) (next : ℕ) (c d f : Sight BookUsage) → IsSameCaller c d → Settles c d
    → IsHindered 1 orders next d f → IsHindered 0 orders next c f
settled_hindered orders next c d f same s (copied h) = copied (sym s.few.copying ∙ h)
settled_hindered orders next c d f same s (full h) = absurd (omega arith)
settled_hindered orders next c d f same s (dear h) = go c.copying refl
  where
    go : (b : Bool) → c.copying ≡ b → IsHindered 0 orders next c f
    go true copies = copied copies
    go false still =
        let room = s.few.room still in
        let equal : cost_on d h.order h.answer h.book ≡ cost_on c h.order h.answer h.book =
        ap (λ (u : BookUsage). cost_on (record c { usage = u }) h.order h.answer h.book) same.usage in
        let start : ℕ → Entry = λ q. Fetch q book_name h.answer in
        dear record {
          order = h.order;
          is_next = h.is_next;
          before = s.few.own ++ h.before;
          first = All-append AttemptsNothing s.few.own h.before s.few.nothing h.first;
          told = ap last_told (sym (append_assoc c.mine s.few.own h.before)
              ∙ ap (λ (l : List Entry). l ++ h.before) (sym s.few.mine)) ∙ h.told;
          answer = h.answer;
          after = h.after;
          mine = h.mine ∙ (ap (λ (l : List Entry). l ++ (h.before ++ start d.number ∷ h.after)) s.few.mine
              ∙ (append_assoc c.mine s.few.own (h.before ++ start d.number ∷ h.after)
              ∙ (ap (λ (l : List Entry). c.mine ++ l) (sym (append_assoc s.few.own h.before (start d.number ∷ h.after)))
              ∙ ap (λ (q : ℕ). c.mine ++ ((s.few.own ++ h.before) ++ start q ∷ h.after)) same.number)));
          book = h.book;
          has = h.has;
          more = let cheap = h.more in omega arith;
        }
settled_hindered orders next c d f same s (overtaken h) =
    overtaken (overtaken_later c d f same s.rises h s.few.own s.few.mine s.first)

-- a caller that has told nothing
pub settles_none : (c : Sight BookUsage) → Settles c c
settles_none c = record {
  few = record {
    own = [];
    mine = sym (append-nil c.mine);
    nothing = All-nil AttemptsNothing;
    copying = refl;
    room = λ still. omega arith;
  };
  first = tt;
  rises = omega arith;
}

-- one that has fetched the common object and told the board
pub settles_told : (c d f : Sight BookUsage) → FetchesCommon c d → TakesFew 1 d f → book_stamp c ≤ book_stamp d
    → book_stamp d ≤ book_stamp f → Settles c f
settles_told c d f fetched told low high =
    let start : Entry = Fetch c.number book_name fetched.answer in
    let here : AttemptsNothing start = tt in
    record {
      few = record {
        own = start ∷ told.own;
        mine = told.mine ∙ (ap (λ (l : List Entry). l ++ told.own) fetched.mine
            ∙ append_assoc c.mine (start ∷ []) told.own);
        nothing = All-cons AttemptsNothing start told.own here told.nothing;
        copying = told.copying ∙ fetched.copying;
        room = λ still. let kept = fetched.room still in let taken = told.room (fetched.copying ∙ still) in omega arith;
      };
      first = (fetched.answer, refl, (let is = fetched.stamp in omega arith), (let is = fetched.stamp in omega arith));
      rises = omega arith;
    }

-- what the board's store at an empty room says of the start
pub settle_full : (orders : List Order) (next : ℕ) (c d f : Sight BookUsage) → FetchesCommon c d → d.room ≡ 0
    → IsHindered 0 orders next c f
settle_full orders next c d f fetched empty = go c.copying refl
  where
    go : (b : Bool) → c.copying ≡ b → IsHindered 0 orders next c f
    go true copies = copied copies
    go false still = full (let kept = fetched.room still in omega arith)

pub settle_either : (orders : List Order) (next : ℕ) (c d f : Sight BookUsage) → FetchesCommon c d
    → (d.room ≡ 0) ⊎ TakesFew 1 d f → book_stamp c ≤ book_stamp d → book_stamp d ≤ book_stamp f
    → IsHindered 0 orders next c f ⊎ Settles c f
settle_either orders next c d f fetched (inl empty) low high = inl (settle_full orders next c d f fetched empty)
settle_either orders next c d f fetched (inr told) low high = inr (settles_told c d f fetched told low high)

-- an order further along a stretch that began where the caller was
pub hindered_from : (orders : List Order) (next : ℕ) (c d f : Sight BookUsage)
    → (d ≡ c) ⊎ IsHindered 1 orders next c d → GoesOn d f → IsHindered 1 orders next d f
    → IsHindered 1 orders next c f
hindered_from orders next c d f (inl same) on h = subst (λ (x : Sight BookUsage). IsHindered 1 orders next x f) same h
hindered_from orders next c d f (inr was) on h = hindered_goes 1 orders next c d f was on

-- an order further along, after the board was told
pub hindered_settled : (orders : List Order) (next : ℕ) (c d f : Sight BookUsage) → GoesOn c d
    → IsHindered 0 orders next c d ⊎ Settles c d → GoesOn d f → IsHindered 1 orders next d f
    → IsHindered 0 orders next c f
hindered_settled orders next c d f before (inl was) on h = hindered_goes 0 orders next c d f was on
hindered_settled orders next c d f before (inr s) on h =
    settled_hindered orders next c d f before.goes.caller s h

-- the next order, from a list that has it
pub next_is : (orders : List Order) (n : ℕ) (d : Order) → n < length orders → slice_get orders n ≡ Some (get_or orders n d)
next_is orders n d h = slice_get-get_or orders n d h

-- an attempt that ends as full was refused as full
pub refused_full : (e : AttemptRefused) (P : Type 0) → (e ≡ refusal.Full → P) → tried_refused e ≡ tried.Full → P
refused_full refusal.Full P h is = h refl
refused_full refusal.Memory P h is = absurd (cc)

-- and none that is refused finds the common object changed
pub refused_unchanged : (e : AttemptRefused) (P : Type 0) → tried_refused e ≡ tried.Changed → P
refused_unchanged refusal.Full P is = absurd (cc)
refused_unchanged refusal.Memory P is = absurd (cc)

-- the next order by another name
pub hindered_same : (spare : ℕ) (orders : List Order) (n m : ℕ) (c d : Sight BookUsage) → n ≡ m
    → IsHindered spare orders n c d → IsHindered spare orders m c d
hindered_same spare orders n m c d is h = subst (λ (k : ℕ). IsHindered spare orders k c d) is h

-- what holds whatever a halt is
pub if_full : (r : Result (Unit {0}) Halt) (P : Type 0) → P → IfErr r (λ halted. IfFull halted (λ used free. P))
if_full (Ok x) P h = tt
if_full (Err (halt.Full used free)) P h = h
if_full (Err halt.Memory) P h = tt

pub settle_ok : (orders : List Order) (next : ℕ) (c d f : Sight BookUsage) (r : Result (Unit {0}) Halt)
    → FetchesCommon c d → OnOk r ((d.room ≡ 0) ⊎ TakesFew 1 d f) → book_stamp c ≤ book_stamp d
    → book_stamp d ≤ book_stamp f → OnOk r (IsHindered 0 orders next c f ⊎ Settles c f)
settle_ok orders next c d f (Ok x) fetched told low high = settle_either orders next c d f fetched told low high
settle_ok orders next c d f (Err e) fetched told low high = tt

-- what holds of a halt as full may be said in other words
pub if_full_so : (r : Result (Unit {0}) Halt) (P Q : Type 0) → (P → Q)
    → IfErr r (λ halted. IfFull halted (λ used free. P)) → IfErr r (λ halted. IfFull halted (λ used free. Q))
if_full_so (Ok x) P Q so h = tt
if_full_so (Err (halt.Full used free)) P Q so h = so h
if_full_so (Err halt.Memory) P Q so h = tt
