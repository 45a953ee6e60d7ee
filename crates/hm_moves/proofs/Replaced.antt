-- Seats and callers of a machine in which one caller was replaced by what it became.
use Rattle.std.proofs.Common.{arith, ◌≡◌, ◌≢◌, ◌⊎◌, ℕ, List, slice_set, refl, sym, ap, ◌∙◌, ⊎_elim}
use Rattle.hm_moves.proofs.Words.{some, get_elem?, Entry, Part, View, view, Carries}
use Rattle.hm_moves.proofs.Places.{at_set}

-- `seen` is what the seat `id` has seen afterwards, and `new` what its caller p at a place became
module _ {U : Type 0} (views : List (View U)) (id place : ℕ) (v : View U) (p new : Part U)
    (seen : List Entry)
    (at : Carries views id place v p) (number : new.number ≡ p.number) where
  -- the seat afterwards
  abbrev pub seat_now : View U
  seat_now = view seen (slice_set v.parts place new)

  -- all seats afterwards
  abbrev pub views_now : List (View U)
  views_now = slice_set views id seat_now

  -- a seat afterwards is that one, or one from before
  abbrev pub EitherSeat : ℕ → View U → Type 0
  EitherSeat j u = ((j ≡ id) × (seat_now ≡ u)) ⊎ ((j ≢ id) × (get_elem? views j ≡ some u))

  pub either_seat : (j : ℕ) (u : View U) → get_elem? views_now j ≡ some u → EitherSeat j u
  either_seat j u there = at_set views id j seat_now u there

  -- a caller of that seat is the one that changed, or one from before
  abbrev pub EitherPart : ℕ → Part U → Type 0
  EitherPart k q = ((k ≡ place) × (new ≡ q)) ⊎ ((k ≢ place) × (get_elem? v.parts k ≡ some q))

  pub either_part : (k : ℕ) (u : View U) (q : Part U) → seat_now ≡ u → get_elem? u.parts k ≡ some q
      → EitherPart k q
  either_part k u q e there =
      at_set v.parts place k new q (ap (λ (z : View U). get_elem? z.parts k) e ∙ there)

  -- a caller stood in the same place before, with the same number
  record Stood (j k n : ℕ) : Type 0 where
    old_view : View U
    old : Part U
    carries : Carries views j k old_view old
    same : old.number ≡ n

  stood : (j k : ℕ) (u : View U) (q : Part U) → Carries views_now j k u q → Stood j k q.number
  stood j k u q t = ⊎_elim
      (λ (r : (j ≡ id) × (seat_now ≡ u)).
      let seat : get_elem? views j ≡ some v = ap (get_elem? views) r.0 ∙ at.seat in ⊎_elim
      (λ (y : (k ≡ place) × (new ≡ q)). record {
        old_view = v;
        old = p;
        carries = record { seat = seat; place = ap (get_elem? v.parts) y.0 ∙ at.place };
        same = sym number ∙ ap (λ (z : Part U). z.number) y.1;
      })
      (λ (y : (k ≢ place) × (get_elem? v.parts k ≡ some q)). record {
        old_view = v;
        old = q;
        carries = record { seat = seat; place = y.1 };
        same = refl;
      })
      (either_part k u q r.1 t.place))
      (λ (r : (j ≢ id) × (get_elem? views j ≡ some u)). record {
        old_view = u;
        old = q;
        carries = record { seat = r.1; place = t.place };
        same = refl;
      })
      (either_seat j u t.seat)

  -- so no caller is carried twice
  pub apart_now : ((j k m n : ℕ) (u w : View U) (q r : Part U) → Carries views j k u q
      → Carries views m n w r
      → q.number ≡ r.number → (j ≡ m) × (k ≡ n))
      → (j k m n : ℕ) (u w : View U) (q r : Part U) → Carries views_now j k u q → Carries views_now
      m n w r
      → q.number ≡ r.number → (j ≡ m) × (k ≡ n)
  apart_now apart j k m n u w q r s t same =
      let a = stood j k u q s in
      let b = stood m n w r t in
      apart j k m n a.old_view b.old_view a.old b.old a.carries b.carries
      (a.same ∙ (same ∙ sym b.same))

  -- what holds of the one that changed, of the others of its seat, and of those of other seats,
  -- holds of all
  pub by_part : (P : List Entry → Part U → Type 0) → P seen new
      → ((k : ℕ) (q : Part U) → k ≢ place → get_elem? v.parts k ≡ some q → P seen q)
      → ((j k : ℕ) (u : View U) (q : Part U) → j ≢ id → Carries views j k u q → P u.seen q)
      → (j k : ℕ) (u : View U) (q : Part U) → Carries views_now j k u q → P u.seen q
  by_part P own along beside j k u q s =
      grind (
        arith,
        either_seat j u s.seat,
        either_part k u q,
        along k q,
        λ (ne : j ≢ id) (t : get_elem? views j ≡ some u). beside j k u q ne
            record { seat = t; place = s.place },
      )

  -- and so of what seats have seen
  pub by_seat : (P : List Entry → Type 0) → P seen
      → ((j : ℕ) (u : View U) → get_elem? views j ≡ some u → P u.seen)
      → (j : ℕ) (u : View U) → get_elem? views_now j ≡ some u → P u.seen
  by_seat P own others j u there = grind (arith, either_seat j u there, others j u)
