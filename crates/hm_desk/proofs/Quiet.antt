-- Stretches of a caller's work that spell no order and tell the board nothing.
use Rattle.std.proofs.Common.{◌≡◌, ℕ, ◌+◌, ◌<◌, ◌≤◌, List, [], ◌∷◌, ◌++◌, All, Option, Some, Result, Ok, Err, IfErr, length, fold, refl, sym, ap, ◌∙◌, subst, append-nil, arith, slice_index}
use Rattle.std.proofs.lemmas.List.Elements.{All-head, All-tail}
use Rattle.std.proofs.lemmas.List.Sums.{fold-append}
use Rattle.hm_orders.specs.declared.order.Order.{Order}
use Rattle.hm_orders.specs.Orders.{AreRowsOf}
use Rattle.hm_model.specs.declared.object.Name.{Name}
use Rattle.hm_model.specs.declared.object.Contents.{Contents}
use Rattle.hm_model.specs.declared.root.Root.{Root}
use Rattle.hm_model.specs.declared.entry.Entry.{Entry}
use Rattle.hm_model.specs.declared.entry.Entry.TheVariants.{Create, Fetch, Store, StoreIf}
use Rattle.hm_model.specs.Store.{contents_of, PlainStore}
use Rattle.hm_model.specs.History.{store_after, store_of}
use Rattle.hm_model.specs.Sight.{Sight, Goes, IsSameCaller, Rests, name_at, present}
use Rattle.hm_model.specs.Building.{IsBuilding, Builds}
use Rattle.hm_model.specs.Calls.{Fetches}
use Rattle.hm_model.specs.Tending.{KeepsNames}
use Rattle.hm_model.proofs.HistoryFacts.{stamp_never_falls}
use Rattle.hm_model.proofs.SightFacts.{goes_enters, goes_rests, goes_then, has_history_goes, present-goes}
use Rattle.hm_list.specs.Places.{SameOutside}
use Rattle.hm_agreement.specs.Agreed.{IsLawfulBook}
use Rattle.hm_agreement.specs.Cells.{book_name}
use Rattle.hm_agreement.specs.Spelled.{IsBookStart, spelled}
use Rattle.hm_agreement.specs.Told.{told_after}
use Rattle.hm_agreement.proofs.Agreeing.{book_laws}
use Rattle.hm_agreement.proofs.SpelledRun.{spelled-append}
use Rattle.hm_cellbook.specs.declared.usage.BookUsage.{BookUsage}
use Rattle.hm_cellbook.specs.Fetched.{book_allowed, book_lawful}
use Rattle.hm_desk.specs.declared.halt.Halt.{Halt}
use Rattle.hm_desk.specs.declared.halt.Halt.TheVariants as halt
use Rattle.hm_desk.specs.Stalling.{IfFull, WasFull}
use Rattle.hm_desk.specs.Desk.{AreOwn}
use Rattle.hm_desk.specs.Working.{GoesOn, GoesQuietly, IsAtDesk, book_stamp, stamp_in}

-- a create or a fetch spells no order
pub spells_nothing : (own : List Entry) → All IsBuilding own → spelled own ≡ []
spells_nothing [] h = refl
spells_nothing (Create q m refs numbers ∷ own) h = spells_nothing own (All-tail IsBuilding _ own h)
spells_nothing (Fetch q m answer ∷ own) h = spells_nothing own (All-tail IsBuilding _ own h)
spells_nothing (Store q m field ∷ own) h = absurd (All-head IsBuilding _ own h)
spells_nothing (StoreIf q m stamp refs numbers answer ∷ own) h = absurd (All-head IsBuilding _ own h)

-- and tells nothing
pub tells_nothing : (own : List Entry) → All IsBuilding own → (n : ℕ) → fold told_after n own ≡ n
tells_nothing [] h n = refl
tells_nothing (Create q m refs numbers ∷ own) h n = tells_nothing own (All-tail IsBuilding _ own h) n
tells_nothing (Fetch q m answer ∷ own) h n = tells_nothing own (All-tail IsBuilding _ own h) n
tells_nothing (Store q m field ∷ own) h n = absurd (All-head IsBuilding _ own h)
tells_nothing (StoreIf q m stamp refs numbers answer ∷ own) h n = absurd (All-head IsBuilding _ own h)

-- a caller that tends makes no entry
pub goes_names : (c d : Sight BookUsage) → KeepsNames c d → Goes book_lawful book_allowed c d []
goes_names c d h = record {
  caller = h.caller;
  more = [];
  seen = h.seen ∙ sym (append-nil c.seen);
  mine = h.mine ∙ sym (append-nil c.mine);
  calls = refl;
  come = tt;
}

pub quiet_names : (c d : Sight BookUsage) → KeepsNames c d → GoesQuietly c d
quiet_names c d h = record { own = []; goes = goes_names c d h; orders = refl; told = λ n. refl }

-- nor one that names places alone
pub quiet_rests : (c d : Sight BookUsage) → Rests c d → GoesQuietly c d
quiet_rests c d h =
    record { own = []; goes = goes_rests book_lawful book_allowed c d h; orders = refl; told = λ n. refl }

-- a caller that builds goes on quietly
pub quiet_builds : (c d : Sight BookUsage) (most : ℕ) → Builds book_lawful book_allowed c d most → GoesQuietly c d
quiet_builds c d most b = record {
  own = b.own;
  goes = b.goes;
  orders = spells_nothing b.own b.building;
  told = tells_nothing b.own b.building;
}

-- so does one that fetches
pub quiet_fetch : (c d : Sight BookUsage) (at : Root) (answer : Contents)
    → Fetches book_lawful book_allowed c d at answer → GoesQuietly c d
quiet_fetch c d at answer h = record {
  own = Fetch c.number h.name answer ∷ [];
  goes = goes_enters book_lawful book_allowed c d (Fetch c.number h.name answer) h.entry;
  orders = refl;
  told = λ n. refl;
}

-- one stretch after another
pub quiet_then : (c d f : Sight BookUsage) → GoesQuietly c d → GoesQuietly d f → GoesQuietly c f
quiet_then c d f h k = record {
  own = h.own ++ k.own;
  goes = goes_then book_lawful book_allowed c d f h.own k.own h.goes k.goes;
  orders = spelled-append h.own k.own ∙ (λ i. h.orders i ++ k.orders i);
  told = λ n. fold-append told_after n h.own k.own ∙ (k.told (fold told_after n h.own) ∙ h.told n);
}

-- and what goes on quietly goes on
pub quiet_on : (c d : Sight BookUsage) → GoesQuietly c d → GoesOn c d
quiet_on c d h = record { own = h.own; goes = h.goes }

pub on_then : (c d f : Sight BookUsage) → GoesOn c d → GoesOn d f → GoesOn c f
on_then c d f h k =
    record { own = h.own ++ k.own; goes = goes_then book_lawful book_allowed c d f h.own k.own h.goes k.goes }

pub on_none : (c : Sight BookUsage) → GoesOn c c
on_none c = record {
  own = [];
  goes = record {
    caller = record { heap = refl; usage = refl; start = refl; number = refl; span = refl };
    more = [];
    seen = sym (append-nil c.seen);
    mine = sym (append-nil c.mine);
    calls = refl;
    come = tt;
  };
}

-- a caller stays at its desk where it goes on and places 0 to 3, and those from 17 on, name what
-- they named
pub desk_goes : (c d : Sight BookUsage) (own : List Entry) → IsAtDesk c → Goes book_lawful book_allowed c d own
    → SameOutside c d 4 17 → IsAtDesk d
desk_goes c d own h goes same = record {
  start = subst IsBookStart (sym goes.caller.start) h.start;
  number = subst (λ (q : ℕ). q < 8) (sym goes.caller.number) h.number;
  common = same.below 0 (omega arith) ∙ h.common;
  low = λ k least most. same.below k most ∙ h.low k least most;
  high = λ k le. same.above k le ∙ h.high k le;
  history = has_history_goes book_lawful book_allowed (λ u. book_laws u.limits u.lengths) c d own
      h.history goes;
}

-- orders stay a caller's own
pub own_goes : (c d : Sight BookUsage) (orders : List Order) → IsSameCaller c d → AreOwn c orders → AreOwn d orders
own_goes c d orders same h = record {
  rows = subst (λ (q : ℕ). AreRowsOf (q + 1) orders) (sym same.number) h.rows;
  few = subst (λ (q : ℕ). length orders ≤ slice_index d.usage.lengths q) (sym same.number)
      (subst (λ (u : BookUsage). length orders ≤ slice_index u.lengths c.number) (sym same.usage) h.few);
}

-- the stamp of the common object never falls
pub stamp_goes : (c d : Sight BookUsage) (own : List Entry) → IsAtDesk c → IsAtDesk d
    → Goes book_lawful book_allowed c d own → book_stamp c ≤ book_stamp d
stamp_goes c d own h k goes =
    let l : IsLawfulBook (present c) = h.history.history.now in
    let m : IsLawfulBook (present d) = k.history.history.now in
    let now : contents_of (store_after (present c) goes.more) book_name ≡ Some m.common =
    ap (λ (s : PlainStore). contents_of s book_name) (sym (present-goes book_lawful book_allowed c d own goes))
    ∙ m.there in
    let falls : l.common.stamp ≤ m.common.stamp =
    stamp_never_falls (present c) goes.more book_name l.common m.common l.there now in
    let first : book_stamp c ≡ l.common.stamp = ap stamp_in l.there in
    let last : book_stamp d ≡ m.common.stamp = ap stamp_in m.there in
    omega arith

-- nor does it change while its caller tends
pub stamp_names : (c d : Sight BookUsage) → KeepsNames c d → book_stamp d ≡ book_stamp c
stamp_names c d h = ap (λ (seen : List Entry). stamp_in (contents_of (store_of seen) book_name)) h.seen

-- a caller that tends stays at its desk
pub desk_names : (c d : Sight BookUsage) → IsAtDesk c → KeepsNames c d → IsAtDesk d
desk_names c d h same = desk_goes c d [] h (goes_names c d same) record {
  below = λ k lt. ap (λ (l : List (Option Name)). name_at l k) same.roots;
  above = λ k le. ap (λ (l : List (Option Name)). name_at l k) same.roots;
}

-- a caller that was full later on was full on its way
pub full_earlier : (c d : Sight BookUsage) (halted : Halt) → GoesOn c d → IfFull halted (WasFull d)
    → IfFull halted (WasFull c)
full_earlier c d (halt.Full used free) on h = record {
  moment = h.moment;
  own = on.own ++ h.own;
  goes = goes_then book_lawful book_allowed c d h.moment on.own h.own on.goes h.goes;
  room = h.room;
  none = h.none;
  used_then = h.used_then;
  free_then = h.free_then;
}
full_earlier c d halt.Memory on h = tt

pub full_earlier_err : (c d : Sight BookUsage) (r : Result (Unit {0}) Halt) → GoesOn c d
    → IfErr r (λ halted. IfFull halted (WasFull d)) → IfErr r (λ halted. IfFull halted (WasFull c))
full_earlier_err c d (Ok x) on h = tt
full_earlier_err c d (Err e) on h = full_earlier c d e on h

-- a caller that tends goes on
pub on_names : (c d : Sight BookUsage) → KeepsNames c d → GoesOn c d
on_names c d h = quiet_on c d (quiet_names c d h)
