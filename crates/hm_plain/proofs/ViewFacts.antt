-- A load at which an entry is added keeps the rule of the table.
use Rattle.std.proofs.Common.{◌≡◌, ◌≢◌, ℕ, zero, suc, List, [], ◌∷◌, ◌++◌, refl, ap, ◌∙◌, subst, ⊎_elim}
use mathlib.Core.Option.{some}
use lib.ListN.{get_elem?}
use Rattle.atomic_table.specs.Table.{Allows, keeps}
use Rattle.atomic_table.proofs.Lists.{at_set}
use Rattle.hm_model.specs.declared.object.Start.{Start}
use Rattle.hm_model.specs.declared.entry.Entry.{Entry}
use Rattle.hm_model.specs.Store.{PlainStore}
use Rattle.hm_model.specs.Effect.{caller_of}
use Rattle.hm_model.specs.History.{calls_of, store_of, opening_of, IsSizedStart}
use Rattle.hm_model.specs.Lawful.{MayCome, UsageLaws}
use Rattle.hm_model.proofs.HistoryFacts.{calls_of-append, lawful_more}
use Rattle.hm_model.proofs.Openings.{lawful_opening, calls_of-opening_mine}
use Rattle.hm_model.proofs.SightFacts.{calls_of-own}
use Rattle.hm_plain.specs.declared.call.Call.{Call}
use Rattle.hm_plain.specs.declared.call.Call.TheVariants.{Create, Fetch, Store, StoreIf}
use Rattle.hm_plain.specs.declared.diary.View.{View}
use Rattle.hm_plain.specs.Calls.{entry_of}
use Rattle.hm_plain.specs.Views.{EachView, IsKept, MayAdd, Adds, opened, longer, tended, store_in}

module _ {U : Type 0} (lawful : U → PlainStore → Type 0) (allowed : U → PlainStore → Entry → Type 0) (laws : (u : U) → UsageLaws (lawful u) (allowed u)) where
  -- a history with an entry more is kept
  pub kept_longer : (v : View U) (e : Entry) → caller_of e ≡ 0 → IsKept lawful allowed v → MayCome (lawful v.usage) (allowed v.usage) (store_in v) e → IsKept lawful allowed (longer v e)
  kept_longer v e own h comes = record {
    history = lawful_more (lawful v.usage) (allowed v.usage) (laws v.usage) v.start v.seen (e ∷ []) h.history (comes, tt);
    calls = calls_of-append 0 v.seen (e ∷ []) ∙ (ap (λ (l : List Entry). l ++ calls_of 0 (e ∷ [])) h.calls ∙ ap (λ (l : List Entry). v.mine ++ l) (calls_of-own 0 e own));
  }

  -- an entry that may be added may come
  pub may_come : (v : View U) (e : Entry) → IsKept lawful allowed v → MayAdd lawful allowed v e → MayCome (lawful v.usage) (allowed v.usage) (store_in v) e
  may_come v e h may = let both = may h in record { store = h.history.now; stands = both.0; entry = both.1 }

  pub adds_allowed : {S : Type 0} (slots id i : ℕ) (v : View U) (c : List (ℕ × S)) (e : Entry) → caller_of e ≡ 0 → MayAdd lawful allowed v e
      → Allows {S = S} (EachView (IsKept lawful allowed)) slots id (v, c) i (λ n. n) (λ _ w. Adds lawful allowed v w.0 e × (w.1 ≡ c))
  adds_allowed slots id i v c e own may s holds same at small =
      let w : View U = longer v e in
      let was : IsKept lawful allowed v = holds id v at in
      let comes = may_come v e was may in
      let now : IsKept lawful allowed w = kept_longer v e own was comes in (
        w,
        keeps,
        tt,
        (λ j u there. ⊎_elim (λ (t : (j ≡ id) × (w ≡ u)). subst (IsKept lawful allowed) t.1 now) (λ (t : (j ≢ id) × (get_elem? s.views j ≡ some u)). holds j u t.1) (at_set s.views id j w u there)),
        (record { view = refl; was = was; come = comes }, refl),
      )

-- a load at which a tend counts keeps the rule of the table
pub tends_allowed : {U S : Type 0} (lawful : U → PlainStore → Type 0) (allowed : U → PlainStore → Entry → Type 0) (slots id i : ℕ) (v : View U) (c : List (ℕ × S))
    → Allows {S = S} (EachView (IsKept lawful allowed)) slots id (v, c) i (λ n. n) (λ _ w. (w.0 ≡ tended v) × (w.1 ≡ c))
tends_allowed {U} lawful allowed slots id i v c s holds same at small =
    let was : IsKept lawful allowed v = holds id v at in
    let now : IsKept lawful allowed (tended v) = record { history = was.history; calls = was.calls } in (
      tended v,
      keeps,
      tt,
      (λ j u there. ⊎_elim (λ (t : (j ≡ id) × (tended v ≡ u)). subst (IsKept lawful allowed) t.1 now) (λ (t : (j ≢ id) × (get_elem? s.views j ≡ some u)). holds j u t.1) (at_set s.views id j (tended v) u there)),
      (refl, refl),
    )

-- every call is caller 0's
pub caller_of-entry_of : (call : Call) → caller_of (entry_of call) ≡ 0
caller_of-entry_of (Create at refs numbers) = refl
caller_of-entry_of (Fetch at answer) = refl
caller_of-entry_of (Store at change) = refl
caller_of-entry_of (StoreIf at stamp refs numbers answer) = refl

-- a table that begins with the opening keeps the rule
pub opening_kept : {U : Type 0} (lawful : U → PlainStore → Type 0) (allowed : U → PlainStore → Entry → Type 0) (usage : U) (start : Start) (versions : ℕ) → IsSizedStart start → lawful usage (store_of (opening_of start))
    → (j : ℕ) (v : View U) → get_elem? (opened usage start versions ∷ []) j ≡ some v → IsKept lawful allowed v
opening_kept lawful allowed usage start versions sized now zero v there =
    let is : opened usage start versions ≡ v = cc in
    subst (IsKept lawful allowed) is record { history = lawful_opening (lawful usage) (allowed usage) start sized now; calls = calls_of-opening_mine start }
opening_kept lawful allowed usage start versions sized now (suc j) v there = absurd (cc)
