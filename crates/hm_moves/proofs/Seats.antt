-- A seat that is cut in two, or takes in another, leaves a good machine.
use Rattle.std.proofs.Common.{◌≡◌, ◌≢◌, ◌⊎◌, ℕ, ◌+◌, ◌<◌, List, [], ◌++◌, length, set, refl, sym, ap, ◌∙◌, subst, arith, ⊎_elim, inl, inr, length-set, append-nil}
use Rattle.hm_moves.proofs.Words.{some, some-ne-none, get_elem?, Entry, PlainStore, calls_of, opening_of, calls_of-append, Site, Part, View, view, Begins, AreBelow, PartIsGood, Core, Good, Carries, split, joined, joined_view, longer, spent_view}
use Rattle.hm_moves.proofs.Histories.{below_later, none_made, nothing_more, begins_on, begins_longer, left_begins, right_begins, calls_between}
use Rattle.hm_moves.proofs.Places.{at_set, at_longer, at_later, at_below, at_end, at_either, set_here, set_else}

-- where a caller stood before a split, by the seat and place where it stands
abbrev CameFrom : ℕ → ℕ → ℕ → ℕ → ℕ → ℕ → ℕ → Type 0
CameFrom id seats cut j k seat place = ((j ≡ id) × (seat ≡ id) × (place ≡ k) × (k < cut)) ⊎
    (((j ≡ seats) × (seat ≡ id) × (place ≡ cut + k)) ⊎
    ((j ≢ id) × (j < seats) × (seat ≡ j) × (place ≡ k)))

split_once : (id seats cut j k a b m n c d : ℕ) → id < seats → CameFrom id seats cut j k a b
    → CameFrom id seats cut m n c d → a ≡ c → b ≡ d → (j ≡ m) × (k ≡ n)
split_once id seats cut j k a b m n c d inside p q e f = grind arith

-- and before a meeting
abbrev MergedFrom : ℕ → ℕ → ℕ → ℕ → ℕ → ℕ → ℕ → Type 0
MergedFrom id other cut j k seat place = ((j ≡ id) × (seat ≡ id) × (place ≡ k) × (k < cut)) ⊎
    (((j ≡ id) × (seat ≡ other) × (k ≡ cut + place)) ⊎
    ((j ≢ id) × (j ≢ other) × (seat ≡ j) × (place ≡ k)))

join_once : (id other cut j k a b m n c d : ℕ) → other ≢ id → MergedFrom id other cut j k a b
    → MergedFrom id other cut m n c d → a ≡ c → b ≡ d → (j ≡ m) × (k ≡ n)
join_once id other cut j k a b m n c d apart p q e f = grind arith

module _ {U : Type 0} (lawful : U → PlainStore → Type 0) (allowed : U → PlainStore → Entry → Type 0)
    (g : Site U) (c : Core U) (id : ℕ) (v : View U) (good : Good lawful allowed g c)
    (at : get_elem? c.views id ≡ some v) where
  module _ (left right : List (Part U)) (cut : v.parts ≡ left ++ right) where
    -- where a caller stood before: the same place, or behind those that stay
    record Came (j k : ℕ) (u : View U) (q : Part U) : Type 0 where
      seat : ℕ
      place : ℕ
      old : View U
      stood : Carries c.views seat place old q
      same : old.seen ≡ u.seen
      how : ((j ≡ id) × (seat ≡ id) × (place ≡ k) × (k < length left)) ⊎
          (((j ≡ length c.views) × (seat ≡ id) × (place ≡ length left + k)) ⊎
          ((j ≢ id) × (j < length c.views) × (seat ≡ j) × (place ≡ k)))

    came : (j k : ℕ) (u : View U) (q : Part U) → Carries (split c id v left right).views j k u q
        → Came j k u
        q
    came j k u q s = ⊎_elim
        (λ (t : (j ≡ length (set c.views id (view v.seen left))) × (view v.seen right ≡ u)).
        record {
          seat = id;
          place = length left + k;
          old = v;
          stood = record {
            seat = at;
            place = ap (λ (l : List (Part U)). get_elem? l (length left + k)) cut ∙
                at_later left right k q (ap (λ (z : View U). get_elem? z.parts k) t.1 ∙ s.place);
          };
          same = ap (λ (z : View U). z.seen) t.1;
          how = inr (inl (t.0 ∙ length-set c.views id (view v.seen left), refl, refl));
        })
        (λ (t : (j < length (set c.views id (view v.seen left))) ×
        (get_elem? (set c.views id (view v.seen left)) j ≡ some u)).
        ⊎_elim
        (λ (r : (j ≡ id) × (view v.seen left ≡ u)).
        let here : get_elem? left k ≡ some q = ap (λ (z : View U). get_elem? z.parts k) r.1
        ∙ s.place in
        record {
          seat = id;
          place = k;
          old = v;
          stood = record {
            seat = at;
            place = ap (λ (l : List (Part U)). get_elem? l k) cut ∙ at_longer left
                right k q here;
          };
          same = ap (λ (z : View U). z.seen) r.1;
          how = inl (r.0, refl, refl, at_below left k q here);
        })
        (λ (r : (j ≢ id) × (get_elem? c.views j ≡ some u)).
        record {
          seat = j;
          place = k;
          old = u;
          stood = record { seat = r.1; place = s.place };
          same = refl;
          how = inr (inr (r.0, at_below c.views j u r.1, refl, refl));
        })
        (at_set c.views id j (view v.seen left) u t.1))
        (at_end (set c.views id (view v.seen left)) (view v.seen right) u j s.seat)

    split_seen : (j : ℕ) (u : View U) → get_elem? (split c id v left right).views j ≡ some u
        → Begins u.seen
        c.heap.history
    split_seen j u there =
        grind (
          arith,
          at_end (set c.views id (view v.seen left)) (view v.seen right) u j there,
          at_set c.views id j (view v.seen left) u,
          good.seen id v at,
          good.seen j u,
        )

    pub good_split : Good lawful allowed g (split c id v left right)
    good_split = record {
      heap = good.heap;
      seen = split_seen;
      parts = λ j k u q s. let b = came j k u q s in
          subst (λ (l : List Entry). PartIsGood g c.heap l q)
          b.same (good.parts b.seat b.place b.old q b.stood);
      apart = λ j k m n u u' q q' s s' same.
          let a = came j k u q s in
          let b = came m n u' q' s' in
          let e = good.apart a.seat a.place b.seat b.place a.old b.old q q' a.stood b.stood same in
          split_once id (length c.views) (length left) j k a.seat a.place m n b.seat b.place
          (at_below c.views id v at) a.how b.how e.0 e.1;
      collects = record {
        state = good.collects.state;
        moves = good.collects.moves;
        rule = good.collects.rule;
        heap = good.collects.heap;
        parts = λ j k u q s. let a = came j k u q s in
            good.collects.parts a.seat a.place a.old q a.stood;
      };
      met = λ j k u q s. let a = came j k u q s in good.met a.seat a.place a.old q a.stood;
    }

  module _ (other : ℕ) (w : View U) (apart : other ≢ id)
      (there : get_elem? c.views other ≡ some w) where
    -- a view afterwards is spent, the joined one, or one from before
    after_join : (j : ℕ) (u : View U) → get_elem? (joined c id v other w).views j ≡ some u
        → ((j ≡ other) × (spent_view ≡ u)) ⊎ (((j ≡ id) × (joined_view v w ≡ u)) ⊎
        ((j ≢ id) × (j ≢ other) × (get_elem? c.views j ≡ some u)))
    after_join j u h =
        grind (
          arith,
          at_set (set c.views id (joined_view v w)) other j spent_view u h,
          at_set c.views id j (joined_view v w) u,
        )

    -- where a caller stood before: the same place, or in the seat that was taken in
    record Merged (j k : ℕ) (u : View U) (q : Part U) : Type 0 where
      seat : ℕ
      place : ℕ
      old : View U
      stood : Carries c.views seat place old q
      further : Begins old.seen u.seen
      begins : Begins u.seen c.heap.history
      how : ((j ≡ id) × (seat ≡ id) × (place ≡ k) × (k < length v.parts)) ⊎
          (((j ≡ id) × (seat ≡ other) × (k ≡ length v.parts + place)) ⊎
          ((j ≢ id) × (j ≢ other) × (seat ≡ j) × (place ≡ k)))

    longer_seen : Begins (longer v.seen w.seen) c.heap.history
    longer_seen = begins_longer v.seen w.seen c.heap.history (good.seen id v at)
        (good.seen other w there)

    merged : (j k : ℕ) (u : View U) (q : Part U) → Carries (joined c id v other w).views j k u q
        → Merged j k
        u q
    merged j k u q s = ⊎_elim
        (λ (t : (j ≡ other) × (spent_view ≡ u)). absurd
        (some-ne-none q (sym (ap (λ (z : View U). get_elem? z.parts k) t.1 ∙ s.place))))
        (λ (t : ((j ≡ id) × (joined_view v w ≡ u)) ⊎
        ((j ≢ id) × (j ≢ other) × (get_elem? c.views j ≡ some u))). ⊎_elim
        (λ (r : (j ≡ id) × (joined_view v w ≡ u)). ⊎_elim
        (λ (y : (k < length v.parts) × (get_elem? v.parts k ≡ some q)).
        record {
          seat = id;
          place = k;
          old = v;
          stood = record { seat = at; place = y.1 };
          further = subst (λ (z : View U). Begins v.seen z.seen) r.1
              (left_begins v.seen w.seen c.heap.history (good.seen id v at)
              (good.seen other w there));
          begins = subst (λ (z : View U). Begins z.seen c.heap.history) r.1 longer_seen;
          how = inl (r.0, refl, refl, y.0);
        })
        (λ (y : (i : ℕ) × (k ≡ length v.parts + i) × (get_elem? w.parts i ≡ some q)).
        record {
          seat = other;
          place = y.0;
          old = w;
          stood = record { seat = there; place = y.2 };
          further = subst (λ (z : View U). Begins w.seen z.seen) r.1
              (right_begins v.seen w.seen c.heap.history (good.seen id v at)
              (good.seen other w there));
          begins = subst (λ (z : View U). Begins z.seen c.heap.history) r.1 longer_seen;
          how = inr (inl (r.0, refl, y.1));
        })
        (at_either v.parts w.parts k q (ap (λ (z : View U). get_elem? z.parts k) r.1 ∙ s.place)))
        (λ (r : (j ≢ id) × (j ≢ other) × (get_elem? c.views j ≡ some u)).
        record {
          seat = j;
          place = k;
          old = u;
          stood = record { seat = r.2; place = s.place };
          further =
              record { rest = []; is = sym (append-nil u.seen) };
          begins = good.seen j u r.2;
          how = inr
              (inr (r.0, r.1, refl, refl));
        }) t)
        (after_join j u s.seat)

    -- a caller in a seat that has seen more
    part_further : (seen seen' : List Entry) (q : Part U) → Begins seen seen'
        → Begins seen' c.heap.history
        → PartIsGood g c.heap seen q → PartIsGood g c.heap seen' q
    part_further seen seen' q more begins k = record {
      site = k.site;
      number = k.number;
      draft = k.draft;
      hands = k.hands;
      calls = record {
        all = k.calls.all;
        seen = calls_between q.number seen seen' c.heap.history q.calls.mine more begins k.calls.all
            k.calls.seen;
        opened = begins_on (opening_of g.start) seen seen' k.calls.opened more;
      };
    }

    pub good_join : Good lawful allowed g (joined c id v other w)
    good_join = record {
      heap = good.heap;
      seen = λ j u h.
          let none : Begins [] c.heap.history = record { rest = c.heap.history; is = refl } in
          grind (arith, after_join j u h, longer_seen, good.seen j u);
      parts = λ j k u q s. let m = merged j k u q s in part_further m.old.seen u.seen q m.further
          m.begins
          (good.parts m.seat m.place m.old q m.stood);
      apart = λ j k m n u u' q q' s s' same.
          let a = merged j k u q s in
          let b = merged m n u' q' s' in
          let e = good.apart a.seat a.place b.seat b.place a.old b.old q q' a.stood b.stood same in
          join_once id other (length v.parts) j k a.seat a.place m n b.seat b.place apart a.how
          b.how e.0 e.1;
      collects = record {
        state = good.collects.state;
        moves = good.collects.moves;
        rule = good.collects.rule;
        heap = good.collects.heap;
        parts = λ j k u q s. let a = merged j k u q s in
            good.collects.parts a.seat a.place a.old q a.stood;
      };
      met = λ j k u q s. let a = merged j k u q s in good.met a.seat a.place a.old q a.stood;
    }

    -- a caller whose seat was joined stays, as it is, behind those of the seat that took it
    pub carried_on : (k : ℕ) (q : Part U) → get_elem? w.parts k ≡ some q
        → Carries (joined c id v other w).views id (length v.parts + k) (joined_view v w) q
    carried_on k q here = record {
      seat = set_else (set c.views id (joined_view v w)) other id spent_view (λ e. apart (sym e))
          ∙ set_here c.views id v (joined_view v w) at;
      place = at_later v.parts w.parts k q here;
    }

  -- a seat that carries every caller has seen all
  pub whole : ((q : ℕ) → q < g.shape.callers → (k : ℕ) × (p : Part U)
      × (get_elem? v.parts k ≡ some p) ×
      (p.number ≡ q)) → c.heap.history ≡ v.seen
  whole all =
      let b = good.seen id v at in
      let below : AreBelow g.shape.callers b.rest = below_later g.shape.callers v.seen b.rest
      (subst (AreBelow g.shape.callers) b.is good.heap.callers) in
      let none : (q : ℕ) → q < g.shape.callers → calls_of q b.rest ≡ [] = λ q small.
      let a = all q small in
      let k = good.parts id a.0 v a.1 record { seat = at; place = a.2 } in
      let mine : List Entry = a.1.calls.mine in
      let made = k.calls.all in let seen = k.calls.seen in let number = a.3 in let is = b.is in
      let both = calls_of-append q v.seen b.rest in nothing_more mine (calls_of q b.rest) (cc) in
      b.is ∙ (ap (λ (l : List Entry). v.seen ++ l) (none_made g.shape.callers b.rest below none)
      ∙ append-nil
      v.seen)
