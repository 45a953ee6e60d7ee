-- What a closed Table leaves: the rule held to the end, and the last seat has seen the whole history.
use Rattle.std.proofs.Common.{◌≡◌, ℕ, Bool, true, false, List, [], ◌∷◌, length, slice_index, nat_lt, if◌then◌else◌, refl, sym, ap, ◌∙◌, subst, arith}
use Rattle.hm_cells.proofs.Words.{nat_tests, some, some-injective, some-ne-none, get_elem?, State, Entry, PlainStore, UsageLaws, Site, View, Begins, Core, longer, Knowledge, Shows, joined_view}
use Rattle.atomic_table.specs.Table.{Final, Seen}
use Rattle.hm_moves.proofs.Seats.{whole}
use Rattle.hm_moves.proofs.Histories.{begins_self}
use Rattle.hm_cells.proofs.Refines.{seat_in}
use Rattle.hm_cells.specs.Ending.{CarriesAll, EndsWith, Gathers, Heard, gathered, shorter}

read : (words : List ℕ) (x : ℕ) → get_elem? words 0 ≡ some x → slice_index words 0 ≡ x
read [] x e = absurd (some-ne-none x (sym e))
read (w ∷ ws) x e = some-injective w x e

not_less : (x y : List Entry) → nat_lt (length x) (length y) ≡ false → longer x y ≡ x
not_less x y e = rw e refl

less_not : (x y : List Entry) → nat_lt (length x) (length y) ≡ true → nat_lt (length y) (length x) ≡ false
less_not x y e = grind (arith, nat_tests)

-- of two histories, where the shorter begins the longer, both do
both_begin : (v w : List Entry) → Begins (shorter v w) (longer (longer v w) (shorter v w))
    → Begins v (longer v w) × Begins w (longer v w)
both_begin v w b = by_test (nat_lt (length v) (length w)) refl b
  where
    pick : Bool → List Entry → List Entry → List Entry
    pick t x y = if t then x else y

    by_test : (t : Bool) → nat_lt (length v) (length w) ≡ t
        → Begins (pick t v w) (longer (pick t w v) (pick t v w))
        → Begins v (pick t w v) × Begins w (pick t w v)
    by_test true e h = (subst (Begins v) (not_less w v (less_not v w e)) h, begins_self w)
    by_test false e h = (begins_self v, subst (Begins w) (not_less v w e) h)

-- a seat that took another in and then heard has seen what either had
pub gathers_now : {U : Type 0} (k other m l : Knowledge U) → m ≡ gathered k other → Heard m l
    → Gathers k other l
gathers_now {U} k other m l is h =
    let heard : Heard (gathered k other) l = subst (λ (z : Knowledge U). Heard z l) is h in
    let view : l.view ≡ joined_view k.view other.view = ap (λ (z : Knowledge U). z.view) heard.is in
    let both = both_begin k.view.seen other.view.seen heard.begins in record {
      view = view;
      own = subst (λ (z : View U). Begins k.view.seen z.seen) (sym view) both.0;
      others = subst (λ (z : View U). Begins other.view.seen z.seen) (sym view) both.1;
    }

module _ {S U : Type 0} (lawful : U → PlainStore → Type 0) (allowed : U → PlainStore → Entry → Type 0)
    (laws : (u : U) → UsageLaws (lawful u) (allowed u)) (g : Site U) where
  ends : (id : ℕ) (k : Knowledge U) (words : List ℕ) (slots : List S) (x : ℕ)
      → Final (Seen (Shows lawful allowed {S = S} g) id k) words slots
      → CarriesAll g.shape.callers k.view.parts → get_elem? words 0 ≡ some x
      → EndsWith lawful allowed g k.view x
  ends id k words slots x f all here =
      let s : State S (Knowledge U) = f.0 in
      let shows : Shows lawful allowed {S = S} g s = f.1.0 in
      let c : Core U = shows.core in
      let at : get_elem? c.views id ≡ some k.view = seat_in lawful allowed laws g s shows id k f.1.1 in
      record {
        core = c;
        good = shows.good;
        id = id;
        seat = at;
        history = whole lawful allowed g c id k.view shows.good at all;
        stage_is = ap (λ (l : List ℕ). slice_index l 0) (shows.depicts.words_are ∙ f.2)
            ∙ read words x here;
      }

  -- the same where the seat and what all agree on are known under other names
  pub finished : (all : Site U) (id : ℕ) (k w : Knowledge U) (words : List ℕ) (slots : List S) (x : ℕ)
      → Final (Seen (Shows lawful allowed {S = S} g) id w) words slots → w ≡ k → g ≡ all
      → CarriesAll all.shape.callers k.view.parts → get_elem? words 0 ≡ some x
      → EndsWith lawful allowed all k.view x
  finished all id k w words slots x f same is carries here =
      let mine : CarriesAll g.shape.callers w.view.parts =
      subst (λ (z : Knowledge U). CarriesAll g.shape.callers z.view.parts) (sym same)
      (subst (λ (z : Site U). CarriesAll z.shape.callers k.view.parts) (sym is) carries) in
      subst (λ (z : Site U). EndsWith lawful allowed z k.view x) is
      (subst (λ (z : Knowledge U). EndsWith lawful allowed g z.view x) same
      (ends id w words slots x f mine here))
