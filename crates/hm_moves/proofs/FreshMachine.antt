-- A fresh machine is good.
use Rattle.std.proofs.Common.{◌≡◌, ◌≢◌, ◌<◌, ◌≤◌, ◌+◌, ◌*◌, ◌==◌, ℕ, false, eq-eqb, ne_eqb, List, [], ◌∷◌, length, replicate, Option, Some, None, Contains, if◌then◌else◌, refl, sym, ap, ◌∙◌, subst, arith, ⊎_elim}
use Rattle.hm_moves.proofs.Words.{nat_tests, common_steps, list_any, mul-lt, slice_get_within, All-nil, All-cons, ℕ_discrete, dite, Version, IsAt, word_count, Start, Entry, Create, Numbers, PlainStore, caller_of}
use Rattle.hm_moves.proofs.Words.{store_of, common_name, opening_of, side_entries, side_names, starting_count, starting_name, IsSizedStart, Known, Site, Index, IsPublished, AreTrue}
use Rattle.hm_moves.proofs.Words.{link_of, Heap, IsOwn, Begins, AreBelow, HeapIsGood, PartIsGood, Core, Good, AreApart, common_known, all_known, fresh_index, fresh_used, fresh_part, IsFreshCore, fresh_places}
use Rattle.hm_model.proofs.Openings.{lawful_opening}
use Rattle.hm_moves.proofs.Histories.{below-append, begins_self}
use Rattle.hm_moves.proofs.Placed.{same_row}
use Rattle.hm_moves.proofs.Held.{none_written, contains_first}
use Rattle.std.proofs.Common.{true, ◌%◌}
use Rattle.std.proofs.Math.Nat.{div-eq_of_lt, mod-eq_of_lt}
use Rattle.std.proofs.lemmas.Nat.{mod-mul-add}
use Rattle.hm_shape.specs.declared.roles.Role.TheVariants.{Free, To}
use Rattle.hm_moves.specs.Good.{HasMet, row_in}
use Rattle.hm_moves.proofs.Words.{is_kept}
use Rattle.hm_moves.proofs.Opening.{collects_fresh}
use Rattle.hm_moves.proofs.Meeting.{met_none}
use Rattle.hm_moves.proofs.Fresh.{AreNumbered, slice_get_contains, numbered, many, common_published, listed_published, used_first, used_other, placed, ranked, chained}

sides_below : (n k : ℕ) (sides : List (Option Numbers)) → 0 < n → AreBelow n (side_entries k sides)
sides_below n k [] low = All-nil (λ e. caller_of e < n)
sides_below n k (None ∷ sides) low = sides_below n k sides low
sides_below n k (Some numbers ∷ sides) low =
    All-cons (λ e. caller_of e < n) (Create 0 (starting_name k) (replicate 4 None) numbers)
    (side_entries (k + 1) sides) low (sides_below n (k + 1) sides low)

opening_below : (n : ℕ) (start : Start) → 0 < n → AreBelow n (opening_of start)
opening_below n start low =
    let e : Entry = Create 0 (common_name start) (side_names 0 start.sides) start.numbers in
    below-append n (side_entries 0 start.sides) (e ∷ []) (sides_below n 0 start.sides low)
    (All-cons (λ e. caller_of e < n) e [] low (All-nil (λ e. caller_of e < n)))

module _ {U : Type 0} (lawful : U → PlainStore → Type 0) (allowed : U → PlainStore → Entry → Type 0)
    (g : Site U)
    (sized : IsSizedStart g.start) (room : starting_count g.start ≤ g.shape.versions) where
  module _ (words : List ℕ) (wide : length words ≡ word_count g.shape)
      (contents : AreTrue g.shape words (fresh_index g.start))
      (links : (k : Known) → IsPublished (fresh_index g.start) k → link_of g.shape words k
      ≡ 0) where
    abbrev heap : Heap
    heap = record {
      words = words;
      index = fresh_index g.start;
      places = fresh_places g.shape g.start;
      history = opening_of g.start;
    }

    heap_good : lawful g.usage (store_of (opening_of g.start)) → HeapIsGood lawful allowed g heap
    heap_good now = record {
      wide = wide;
      placed = placed g.start sized g.shape room;
      ranked = ranked g.start sized g.shape room;
      contents = contents;
      chained = chained g.start sized g.shape room words links;
      history = lawful_opening (lawful g.usage) (allowed g.usage) g.start sized now;
      callers = opening_below g.shape.callers g.start (omega (arith, g.shape.callers_fit));
    }

    row_used : (q : ℕ) → (if q == 0 then starting_count g.start else 0) ≡ fresh_used g.start
        (q * g.shape.regions + 0)
    row_used q =
        let more = mul-lt 0 0 q g.shape.regions in let fit = g.shape.regions_fit in
        grind (
          arith,
          nat_tests,
          common_steps,
          used_first g.start sized (q * g.shape.regions + 0),
          used_other g.start sized (q * g.shape.regions + 0),
        )

    -- caller 0 has published all
    abbrev own_list : ℕ → List Known
    own_list q = if q == 0 then all_known g.start else []

    first_place : (k : Known) → IsPublished (fresh_index g.start) k → IsAt g.shape k.version 0 0
        k.version.0
    first_place k there =
        let low = slice_get_within (all_known g.start) k.version.0 k there in
        let long = many g.start sized in
        record {
          number = λ i. record { 0 = at i };
          owner_fits = omega (arith, g.shape.callers_fit);
          region_fits = omega (arith, g.shape.regions_fit);
          place_fits = omega arith;
        }
      where
        at : k.version.0 ≡ (0 * g.shape.regions + 0) * g.shape.versions + k.version.0
        at = omega arith

    own_listed : (q : ℕ) (k : Known) → Contains (own_list q) k → IsOwn g.shape q
        (fresh_index g.start) k
    own_listed q k there = dite (ℕ_discrete q 0)
        (λ e. let c : Contains (all_known g.start) k = rw (eq-eqb q 0 e) at there in
        let is = listed_published g.start sized k c in
        record {
          published = is;
          region = 0;
          place = k.version.0;
          at = subst (λ (n : ℕ). IsAt g.shape k.version n 0 k.version.0) (sym e) (first_place k is);
        })
        (λ ne. let c : Contains [] k = rw (ne_eqb q 0 ne) at there in let low = c.1 in
        absurd (omega arith))

    numbered_apart : (k : ℕ) (ms : List Known) → AreNumbered k ms → AreApart ms
    numbered_apart k [] h = tt
    numbered_apart k (m ∷ ms) h = (
      none_of m.version.0 (k + 1) ms h.1
          (let is : m.version.0 ≡ k = ap (λ (z : Known). z.version.0) h.0.is in omega arith),
      numbered_apart (k + 1) ms h.1,
    )
      where
        none_of : (n j : ℕ) (l : List Known) → AreNumbered j l → n < j
            → list_any (λ (z : Known). z.version.0 == n) l ≡ false
        none_of n j [] e low = refl
        none_of n j (x ∷ xs) e low =
            let is : x.version.0 ≡ j = ap (λ (z : Known). z.version.0) e.0.is in
            rw (ne_eqb x.version.0 n (λ z. omega arith)) (none_of n (j + 1) xs e.1 (omega arith))

    own_apart : (q : ℕ) → AreApart (own_list q)
    own_apart q =
        grind (arith, common_steps, numbered_apart 0 (all_known g.start) (numbered g.start sized))

    -- a version of another row than the first is not there
    first_row : (q region place : ℕ) (k : Known) → IsPublished (fresh_index g.start) k
        → IsAt g.shape k.version q region place → q ≢ 0 → ⊥
    first_row q region place k there at ne =
        let low = slice_get_within (all_known g.start) k.version.0 k there in
        let long = many g.start sized in
        let number : k.version.0
        ≡ (q * g.shape.regions + region) * g.shape.versions + place =
        ap (λ (v : Version). v.0) at.number in
        let row : 0 < q * g.shape.regions =
        mul-lt 0 0 q g.shape.regions (omega arith) (omega (arith, g.shape.regions_fit)) in
        let same : 0 * g.shape.versions + k.version.0
        ≡ (q * g.shape.regions + region) * g.shape.versions +
        place =
        omega arith in
        let zero_row : 0 ≡ q * g.shape.regions + region =
        same_row 0 (q * g.shape.regions + region) g.shape.versions k.version.0 place (omega arith)
        at.place_fits same in
        omega arith

    own_all : (q : ℕ) (k : Known) → IsOwn g.shape q (fresh_index g.start) k → Contains (own_list q)
        k
    own_all q k own = grind (
      arith,
      nat_tests,
      slice_get_contains (all_known g.start) k.version.0 k own.published,
      first_row q own.region own.place k own.published own.at,
    )

    -- each caller writes into its first region
    first_role : (q : ℕ) → (if (q * g.shape.regions + 0) % g.shape.regions == 0 then To else Free)
        ≡ To
    first_role q = rw (eq-eqb ((q * g.shape.regions + 0) % g.shape.regions) 0
        (mod-mul-add q g.shape.regions 0 (omega (arith, g.shape.regions_fit)))) refl

    own_kept : (q : ℕ) (k : Known) → Contains (own_list q) k
        → is_kept (if row_in g.shape k.version % g.shape.regions == 0 then To else Free) ≡ true
    own_kept q k there =
        let low = slice_get_within (all_known g.start) k.version.0 k
        (own_listed q k there).published in
        let long = many g.start sized in
        let row : row_in g.shape k.version ≡ 0 = div-eq_of_lt (omega arith) in
        rw (eq-eqb (row_in g.shape k.version % g.shape.regions) 0
        (ap (λ (r : ℕ). r % g.shape.regions) row
        ∙ mod-eq_of_lt (omega (arith, g.shape.regions_fit))))
        refl

    part_good : (q : ℕ) → q < g.shape.callers → PartIsGood g heap (opening_of g.start)
        (fresh_part g q)
    part_good q low = record {
      site = refl;
      number = low;
      draft = record {
        region = omega (arith, g.shape.regions_fit);
        to = first_role q;
        live = refl;
        used = row_used q;
        wide = refl;
        written = λ left j w is. absurd (none_written j w is);
        named = λ j w n is. absurd (none_written j w is);
      };
      hands = record {
        held = λ k there. ⊎_elim
            (λ (e : common_known g.start ≡ k).
            subst (IsPublished (fresh_index g.start)) e (common_published g.start sized))
            (λ (c : Contains [] k). let none = c.1 in absurd (omega arith))
            (contains_first k (common_known g.start) [] there);
        own = own_listed q;
        kept = λ k there. own_kept q k there;
        left = λ k there. let none = there.1 in absurd (omega arith);
        given = λ k there. let none = there.1 in absurd (omega arith);
        alive = λ k there. let none = there.1 in absurd (omega arith);
        all = own_all q;
        once = own_apart q;
      };
      calls = record { all = refl; seen = refl; opened = begins_self (opening_of g.start) };
    }

  -- a fresh machine is good
  pub good_fresh : (c : Core U) → IsFreshCore g c → lawful g.usage (store_of (opening_of g.start))
      → Good lawful allowed g c
  good_fresh c fresh now =
      let words : List ℕ = c.heap.words in
      let index = fresh.heap.index in
      let contents : AreTrue g.shape words (fresh_index g.start) =
      subst (AreTrue g.shape words) index fresh.heap.contents in
      let links : (k : Known) → IsPublished (fresh_index g.start) k → link_of g.shape words k ≡ 0 =
      subst (λ (i : Index). (k : Known) → IsPublished i k → link_of g.shape words k ≡ 0) index
      fresh.heap.links in
      let same : heap words fresh.heap.wide contents links ≡ c.heap = λ i. record {
        words = words;
        index = sym index i;
        places = sym fresh.heap.places i;
        history = sym fresh.heap.history i;
      } in
      record {
        heap = subst (HeapIsGood lawful allowed g) same
            (heap_good words fresh.heap.wide contents links now);
        seen = λ j v there. subst (λ (l : List Entry). Begins l c.heap.history)
            (sym (fresh.seen j v there))
            (subst (Begins (opening_of g.start)) (sym fresh.heap.history)
            (begins_self (opening_of g.start)));
        parts = λ j k v p at.
            let q = fresh.parts j k v p at in
            subst (PartIsGood g c.heap v.seen) (sym q.1)
            (subst (λ (l : List Entry). PartIsGood g c.heap l (fresh_part g p.number))
            (sym (fresh.seen j v at.seat))
            (subst (λ (h : Heap). PartIsGood g h (opening_of g.start) (fresh_part g p.number)) same
            (part_good words fresh.heap.wide contents links p.number q.0)));
        apart = fresh.apart;
        collects = collects_fresh g c sized room fresh;
        met = λ j k v p at. subst (HasMet g.shape c.heap) (sym (fresh.parts j k v p at).1)
            (met_none g.shape c.heap (fresh_part g p.number) refl);
      }
