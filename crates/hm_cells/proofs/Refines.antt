-- A call is one step of the machine.
use Rattle.std.proofs.Common.{◌≡◌, ◌+◌, ◌≢◌, ℕ, zero, suc, ◌<◌, Bool, true, false, nat_lt, List, [], ◌∷◌, ◌++◌, length, append-nil, map, slice_index, slice_set, Option, if◌then◌else◌, refl, sym, ap, ◌∙◌, subst, arith, ⊎_elim, ◌^◌}
use Rattle.hm_cells.proofs.Words.{◌==◌, map-set, map-append, set-get_or, some, some-injective, get_elem?, State, Allows, Splits, Joins, keeps, stepped, Valid, carried_after, Entry, PlainStore, UsageLaws, Known, Site, Part, View, Move, word_of, becomes, entry_of, listed, finds, view, view_after, view_letting, letting, Enabled, Begins, Core, Good, Carries, applied}
use Rattle.hm_cells.proofs.Words.{split, joined, joined_view, longer, spent_view, Depicts, released, begins_more, left_begins, at_set, set_else, set_here, good_step, enabled_lawful, Knowledge, Shows, Learnt, Learns, Looked, LookTells, IsReady, Loads, Stores, Exchanges, knowledge, looking, noted, met, spent, noting, first_letting, front, back, Heap}
use Rattle.atomic_table.specs.Table.{Act}
use Rattle.atomic_table.proofs.Lists.{at_map, at_snoc}
use Rattle.hm_moves.proofs.Seats.{good_split, good_join}
use Rattle.hm_cells.proofs.Learning.{learnt_of}
use Rattle.hm_cells.proofs.Short.{stage_low}
use Rattle.hm_shape.specs.Words.{stage_at}
use Rattle.hm_moves.specs.Places.{Heap}
use Rattle.hm_cells.proofs.Sure.{sure_letting}
use Rattle.hm_moves.proofs.Released.{good_released}
use Rattle.hm_moves.proofs.Histories.{right_begins}
use Rattle.hm_cells.specs.Ending.{Heard, gathered, shorter}

same_place : {U : Type 0} (ps : List (Part U)) (n : ℕ) (p q : Part U) → get_elem? ps n ≡ some p
    → get_elem? ps n ≡ some q → p ≡ q
same_place ps n p q a b = some-injective p q (sym a ∙ b)

module _ {A : Type 0} where
  -- what is put in twice is put in
  set_twice : (l : List A) (i : ℕ) (a : A) → slice_set (slice_set l i a) i a ≡ slice_set l i a
  set_twice [] i a = refl
  set_twice (x ∷ xs) zero a = refl
  set_twice (x ∷ xs) (suc i) a = ap (λ (l : List A). x ∷ l) (set_twice xs i a)

  -- what is there already changes nothing
  set_there : (l : List A) (i : ℕ) (a : A) → get_elem? l i ≡ some a → slice_set l i a ≡ l
  set_there [] i a e = refl
  set_there (x ∷ xs) zero a e = ap (λ (b : A). b ∷ xs) (some-injective a x (sym e))
  set_there (x ∷ xs) (suc i) a e = ap (λ (l : List A). x ∷ l) (set_there xs i a e)

set_same : (words : List ℕ) (i : ℕ) → slice_set words i (slice_index words i) ≡ words
set_same words i = set-get_or words i 0

-- every list is its front and its back
front_back : {U : Type 0} (ps : List (Part U)) → ps ≡ front ps ++ back ps
front_back {U} [] = refl
front_back {U} (p ∷ []) = refl
front_back {U} (p ∷ (q ∷ ps)) = ap (λ (l : List (Part U)). p ∷ l) (front_back (q ∷ ps))

nothing_begins : (es : List Entry) → Begins [] es
nothing_begins es = record { rest = es; is = refl }

module _ {U : Type 0} where
  abbrev seen_by : Knowledge U → View U
  seen_by k = k.view

  -- a state that depicts a machine depicts the machine after a move, once the call's word and view are changed
  pub depicts_step : (words : List ℕ) (views : List (Knowledge U)) (c : Core U) (id place : ℕ)
      (k l : Knowledge U) (p : Part U) (m : Move)
      → Depicts words (map seen_by views) c
      → l.view ≡ view_after k.view place c.heap.history p m (slice_index c.heap.words (word_of p m.act))
      (finds c.heap.index m.act (slice_index c.heap.words (word_of p m.act)))
      → Depicts (slice_set words (word_of p m.act) (becomes m.act (slice_index words (word_of p m.act))))
      (map seen_by (slice_set views id l)) (applied c id place k.view p m)
  depicts_step words views c id place k l p m shown is = record {
    words_are = ap (λ (i : List ℕ). slice_set i (word_of p m.act) (becomes m.act (slice_index i
        (word_of p m.act)))) shown.words_are;
    views_are = (λ i. slice_set (shown.views_are i) id (sym is i)) ∙ sym (map-set seen_by views id l);
  }

module _ {S U : Type 0} (lawful : U → PlainStore → Type 0) (allowed : U → PlainStore → Entry → Type 0)
    (laws : (u : U) → UsageLaws (lawful u) (allowed u)) (g : Site U) where
  -- the seat of a table's state is one of the machine that it depicts
  pub seat_in : (s : State S (Knowledge U)) (shows : Shows lawful allowed g s) (id : ℕ) (k : Knowledge U)
      → get_elem? s.views id ≡ some k → get_elem? shows.core.views id ≡ some k.view
  seat_in s shows id k at = ap (λ (l : List (View U)). get_elem? l id) shows.depicts.views_are
      ∙ at_map seen_by s.views id k at

  -- what seats had seen before a meeting begins the history, where one seat forgets it and entries are made
  before_now : (s : State S (Knowledge U)) (h more : List Entry) (id : ℕ) (l : Knowledge U) → l.before ≡ []
      → ((j : ℕ) (u : Knowledge U) → get_elem? s.views j ≡ some u → Begins u.before h)
      → (j : ℕ) (u : Knowledge U) → get_elem? (slice_set s.views id l) j ≡ some u
      → Begins u.before (h ++ more)
  before_now s h more id l none all j u there = ⊎_elim
      (λ (t : (j ≡ id) × (l ≡ u)). subst (λ (z : Knowledge U). Begins z.before (h ++ more)) t.1
      (subst (λ (z : List Entry). Begins z (h ++ more)) (sym none) (nothing_begins (h ++ more))))
      (λ (t : (j ≢ id) × (get_elem? s.views j ≡ some u)). begins_more u.before h more (all j u t.1))
      (at_set s.views id j l u there)

  module _ (slots id place : ℕ) (k : Knowledge U) (held : List (ℕ × S)) (m : Move) (p : Part U)
      (own : get_elem? k.view.parts place ≡ some p)
      (may : Enabled lawful allowed k.view.seen p m) where
    -- whatever the table is, the move is one step of the machine that it shows
    one_step : Allows {S = S} (Shows lawful allowed g) slots id (k, held) (word_of p m.act) (becomes m.act)
        (λ x w. Learns lawful allowed m place k x w.0 × (w.1 ≡ held))
    one_step s shows homes at small =
        let c : Core U = shows.core in
        let carries : Carries c.views id place k.view p =
        record { seat = seat_in s shows id k at; place = own } in
        let x : ℕ = slice_index c.heap.words (word_of p m.act) in
        let x' : ℕ = slice_index s.words (word_of p m.act) in
        let same : x ≡ x' = ap (λ (l : List ℕ). slice_index l (word_of p m.act)) shows.depicts.words_are in
        let l : Knowledge U = record k {
          view = view_after k.view place c.heap.history p m x (finds c.heap.index m.act x);
          steps = k.steps + 1;
          before = [];
        } in
        let lawfully = enabled_lawful lawful allowed g c id place k.view p m shows.good carries may in
        let learnt : Learnt lawful allowed m k place p x l =
        learnt_of lawful allowed laws g c id place k p m shows.good carries may shows.low in (
          l,
          keeps,
          tt,
          record {
            core = applied c id place k.view p m;
            good = good_step lawful allowed laws g c id place k.view p m shows.good carries lawfully;
            depicts = depicts_step s.words s.views c id place k l p m shows.depicts refl;
            low = stage_low c.heap.words p _ _ _ _ m.act lawfully.act
                (let w = shows.good.heap.wide in omega (arith, w)) shows.low;
            before = before_now s c.heap.history (listed (entry_of p.number m.act x)) id l refl shows.before;
          },
          (
            λ q other. subst (λ (r : Part U). Learnt lawful allowed m k place r x' l)
                (same_place k.view.parts place p q own other)
                (subst (λ (n : ℕ). Learnt lawful allowed m k place p n l) same learnt),
            refl,
          ),
        )

    -- the same where the word and the change are known under other names
    step_as : (word : ℕ) (f : ℕ → ℕ) → word_of p m.act ≡ word → ((x : ℕ) → becomes m.act x ≡ f x)
        → Allows {S = S} (Shows lawful allowed g) slots id (k, held) word f
        (λ x w. Learns lawful allowed m place k x w.0 × (w.1 ≡ held))
    step_as word f is turns s shows homes at small =
        let small' : slice_index s.words (word_of p m.act) < 18446744073709551616 =
        subst (λ (i : ℕ). slice_index s.words i < 18446744073709551616) (sym is) small in
        let P : ℕ → ℕ → Type 0 = λ i y. (w : Knowledge U) × (a : Act S) × Valid s.homes held a
        × Shows lawful allowed g (stepped s i y id held w a)
        × (Learns lawful allowed m place k (slice_index s.words i) w × (carried_after held a ≡ held)) in
        subst (λ (i : ℕ). P i (f (slice_index s.words i))) is
        (subst (λ (y : ℕ). P (word_of p m.act) y) (turns (slice_index s.words (word_of p m.act)))
        (one_step s shows homes at small'))

  module _ (slots id place : ℕ) (k : Knowledge U) (held : List (ℕ × S)) (m : Move) where
    pub load_as : (word : ℕ) → IsReady lawful allowed k m place (Loads m word)
        → Allows {S = S} (Shows lawful allowed g) slots id (k, held) word (λ n. n)
        (λ x w. Learns lawful allowed m place k x w.0 × (w.1 ≡ held))
    load_as word r = step_as slots id place k held m r.caller r.carries r.enabled word (λ n. n)
        r.moves.place r.moves.stays

    pub exchange_as : (word from to : ℕ) → IsReady lawful allowed k m place (Exchanges m word from to)
        → Allows {S = S} (Shows lawful allowed g) slots id (k, held) word (λ n. if n == from then to else n)
        (λ x w. Learns lawful allowed m place k x w.0 × (w.1 ≡ held))
    exchange_as word from to r = step_as slots id place k held m r.caller r.carries r.enabled word
        (λ n. if n == from then to else n) r.moves.place r.moves.turns

    -- a store is told the number that it stored
    pub store_as : (word value : ℕ) → IsReady lawful allowed k m place (Stores lawful allowed m word value)
        → Allows {S = S} (Shows lawful allowed g) slots id (k, held) word (λ _. value)
        (λ _ w. Learns lawful allowed m place k value w.0 × (w.1 ≡ held))
    store_as word value r s shows homes at small =
        let a = step_as slots id place k held m r.caller r.carries r.enabled word
        (λ _. value) r.moves.place r.moves.value_is s
        shows homes at small in
        let learnt : Learnt lawful allowed m k place r.caller value a.0 =
        r.moves.blind k a.0 place (slice_index s.words word) value (a.4.0 r.caller r.carries) in (
          a.0,
          a.1,
          a.2,
          a.3,
          (
            λ q other. subst (λ (y : Part U). Learnt lawful allowed m k place y value a.0)
                (same_place k.view.parts place r.caller q r.carries other) learnt,
            a.4.1,
          ),
        )

  -- a look moves no word
  pub look_as : (slots id place : ℕ) (k : Knowledge U) (held : List (ℕ × S)) (o : Option Known) (p : Part U)
      (i : ℕ) → get_elem? k.view.parts place ≡ some p
      → Allows {S = S} (Shows lawful allowed g) slots id (k, held) i (λ n. n)
      (λ _ w. LookTells lawful allowed o place k w.0 × (w.1 ≡ held))
  look_as slots id place k held o p i own s shows homes at small =
      let c : Core U = shows.core in
      let v : View U = k.view in
      let carries : Carries c.views id place v p = record { seat = seat_in s shows id k at; place = own } in
      let l : Knowledge U = looking k place p o in
      let begun : Begins k.before (longer k.before v.seen) =
      left_begins k.before v.seen c.heap.history (shows.before id k at)
      (shows.good.seen id v carries.seat) in (
        l,
        keeps,
        tt,
        record {
          core = released c id place v p o;
          good = good_released lawful allowed g c id place v p o shows.good carries;
          depicts = record {
            words_are = shows.depicts.words_are ∙ sym (set_same s.words i);
            views_are = ap (λ (z : List (View U)). slice_set z id l.view) shows.depicts.views_are
                ∙ sym (map-set seen_by s.views id l);
          };
          low = shows.low;
          before = subst (λ (h : List Entry). (j : ℕ) (u : Knowledge U)
              → get_elem? (slice_set s.views id l) j ≡ some u → Begins u.before h)
              (append-nil c.heap.history) (before_now s c.heap.history [] id l refl shows.before);
        },
        (
          λ q other. subst (λ (r : Part U). Looked lawful allowed o k place r l)
              (same_place v.parts place p q own other)
              record {
                is = refl;
                sure = sure_letting lawful allowed g c id place v p o shows.good carries;
                begins = begun;
              },
          refl,
        ),
      )

  cuts : (id : ℕ) (k kept new : Knowledge U) → k.view.parts ≡ kept.view.parts ++ new.view.parts
      → kept.view ≡ view k.view.seen kept.view.parts → new.view ≡ view k.view.seen new.view.parts
      → ((h : List Entry) → Begins k.before h → Begins kept.before h) → ((h : List Entry)
      → Begins new.before h)
      → Splits {S = S} (Shows lawful allowed g) id k kept new
  cuts id k kept new cut a b f n s shows at =
      let c : Core U = shows.core in
      let v : View U = k.view in
      let left : List (Part U) = kept.view.parts in
      let right : List (Part U) = new.view.parts in
      let at_c : get_elem? c.views id ≡ some v = seat_in s shows id k at in
      record {
        core = split c id v left right;
        good = good_split lawful allowed g c id v shows.good at_c left right cut;
        depicts = record {
          words_are = shows.depicts.words_are;
          views_are = ap (λ (l : List (View U)). slice_set l id (view v.seen left) ++ view v.seen right ∷ [])
              shows.depicts.views_are
              ∙ ((λ i. slice_set (map seen_by s.views) id (sym a i) ++ sym b i ∷ [])
              ∙ (ap (λ (l : List (View U)). l ++ new.view ∷ []) (sym (map-set seen_by s.views id kept))
              ∙ sym (map-append seen_by (slice_set s.views id kept) (new ∷ []))));
        };
        low = shows.low;
        before = λ j u there. ⊎_elim
            (λ (t : get_elem? (slice_set s.views id kept) j ≡ some u). ⊎_elim
            (λ (r : (j ≡ id) × (kept ≡ u)). subst (λ (z : Knowledge U). Begins z.before c.heap.history) r.1
            (f c.heap.history (shows.before id k at)))
            (λ (r : (j ≢ id) × (get_elem? s.views j ≡ some u)). shows.before j u r.1)
            (at_set s.views id j kept u t))
            (λ (t : new ≡ u). subst (λ (z : Knowledge U). Begins z.before c.heap.history) t
            (n c.heap.history))
            (at_snoc (slice_set s.views id kept) new u j there);
      }

  pub last_out : (id : ℕ) (k : Knowledge U)
      → Splits {S = S} (Shows lawful allowed g) id k (knowledge (view k.view.seen (front k.view.parts)))
      (knowledge (view k.view.seen (back k.view.parts)))
  last_out id k = cuts id k (knowledge (view k.view.seen (front k.view.parts)))
      (knowledge (view k.view.seen (back k.view.parts))) (front_back k.view.parts) refl refl
      (λ h b. nothing_begins h) (λ h. nothing_begins h)

  -- a state in which a seat's own caller lets go of a version shows a good machine
  module _ (id : ℕ) (k : Knowledge U) (o : Option Known) (s : State S (Knowledge U))
      (shows : Shows lawful allowed g s) (at : get_elem? s.views id ≡ some k) where
    abbrev let_go : State S (Knowledge U)
    let_go = record s { views = slice_set s.views id (noting o k) }

    before_kept : (j : ℕ) (u : Knowledge U) → get_elem? let_go.views j ≡ some u
        → Begins u.before shows.core.heap.history
    before_kept j u there = ⊎_elim
        (λ (t : (j ≡ id) × (noting o k ≡ u)).
        subst (λ (z : Knowledge U). Begins z.before shows.core.heap.history) t.1 (shows.before id k at))
        (λ (t : (j ≢ id) × (get_elem? s.views j ≡ some u)). shows.before j u t.1)
        (at_set s.views id j (noting o k) u there)

    with_views : (c : Core U) → Good lawful allowed g c → c.heap ≡ shows.core.heap
        → c.views ≡ slice_set (map seen_by s.views) id (noting o k).view → Shows lawful allowed g let_go
    with_views c good heap views = record {
      core = c;
      good = good;
      depicts = record {
        words_are = ap (λ (h : Heap). h.words) heap ∙ shows.depicts.words_are;
        views_are = views ∙ sym (map-set seen_by s.views id (noting o k));
      };
      low = subst (λ (h : Heap). slice_index h.words stage_at < 2 ^ 64) (sym heap) shows.low;
      before = λ j u there. subst (λ (h : Heap). Begins u.before h.history) (sym heap)
          (before_kept j u there);
    }

    lets_go : (ps : List (Part U)) → k.view.parts ≡ ps → Shows lawful allowed g let_go
    lets_go [] e =
        let same : k.view ≡ (noting o k).view =
        (λ i. view k.view.seen (e i)) ∙ ap (λ (l : List (Part U)). view k.view.seen (first_letting l o)) (sym e)
        in with_views shows.core shows.good refl
        (shows.depicts.views_are
        ∙ (sym (set_there (map seen_by s.views) id k.view (at_map seen_by s.views id k at))
        ∙ ap (slice_set (map seen_by s.views) id) same))
    lets_go (p ∷ ps) e =
        let carries : Carries shows.core.views id 0 k.view p = record {
          seat = seat_in s shows id k at;
          place = ap (λ (l : List (Part U)). get_elem? l 0) e;
        } in
        let now : view_letting k.view 0 p o ≡ (noting o k).view =
        ap (λ (l : List (Part U)). view k.view.seen (slice_set l 0 (letting p o))) e
        ∙ ap (λ (l : List (Part U)). view k.view.seen (first_letting l o)) (sym e) in
        with_views (released shows.core id 0 k.view p o)
        (good_released lawful allowed g shows.core id 0 k.view p o shows.good carries) refl
        (λ i. slice_set (shows.depicts.views_are i) id (now i))

  -- a note is split off a seat whose own caller lets go of a version
  pub notes : (id : ℕ) (k : Knowledge U) (o : Option Known)
      → Splits {S = S} (Shows lawful allowed g) id k (noting o k) (noted k)
  notes id k o s shows at =
      let l : Knowledge U = noting o k in
      let t : State S (Knowledge U) = let_go id k o s shows at in
      let cut = cuts id l l (noted k) (sym (append-nil l.view.parts)) refl refl (λ h b. b)
      (λ h. nothing_begins h) t (lets_go id k o s shows at k.view.parts refl) (set_here s.views id k l at) in
      subst (λ (vs : List (Knowledge U)). Shows lawful allowed g (record s { views = vs ++ noted k ∷ [] }))
      (set_twice s.views id l) cut

  -- a seat takes another in, and keeps in mind a history that begins what both do
  unites_as : (id : ℕ) (k : Knowledge U) (other : ℕ) (l : Knowledge U) (mind : List Entry)
      → ((h : List Entry) → Begins k.view.seen h → Begins l.view.seen h → Begins mind h)
      → Joins {S = S} (Shows lawful allowed g) id k other l
      (record k { view = joined_view k.view l.view; steps = k.steps + 1; before = mind }) spent
  unites_as id k other l mind minds s shows at apart there =
      let both : Knowledge U =
      record k { view = joined_view k.view l.view; steps = k.steps + 1; before = mind } in
      let c : Core U = shows.core in
      let v : View U = k.view in
      let w : View U = l.view in
      let at_c : get_elem? c.views id ≡ some v = seat_in s shows id k at in
      let l_there : get_elem? s.views other ≡ some l = sym (set_else s.views id other both apart)
      ∙ there in
      let there_c : get_elem? c.views other ≡ some w = seat_in s shows other l l_there in
      record {
        core = joined c id v other w;
        good = good_join lawful allowed g c id v shows.good at_c other w apart there_c;
        depicts = record {
          words_are = shows.depicts.words_are;
          views_are = ap (λ (i : List (View U)). slice_set (slice_set i id (joined_view v w)) other spent_view)
              shows.depicts.views_are
              ∙ (ap (λ (i : List (View U)). slice_set i other spent_view) (sym (map-set seen_by s.views id
              both))
              ∙ sym (map-set seen_by (slice_set s.views id both) other spent));
        };
        low = shows.low;
        before = λ j u here. ⊎_elim
            (λ (t : (j ≡ other) × (spent ≡ u)). subst (λ (z : Knowledge U). Begins z.before c.heap.history)
            t.1 (nothing_begins c.heap.history))
            (λ (t : (j ≢ other) × (get_elem? (slice_set s.views id both) j ≡ some u)). ⊎_elim
            (λ (r : (j ≡ id) × (both ≡ u)). subst (λ (z : Knowledge U). Begins z.before c.heap.history)
            r.1 (minds c.heap.history (shows.good.seen id v at_c) (shows.good.seen other w there_c)))
            (λ (r : (j ≢ id) × (get_elem? s.views j ≡ some u)). shows.before j u r.1)
            (at_set s.views id j both u t.1))
            (at_set (slice_set s.views id both) other j spent u here);
      }

  pub unites : (id : ℕ) (k : Knowledge U) (other : ℕ) (l : Knowledge U)
      → Joins {S = S} (Shows lawful allowed g) id k other l (met k l) spent
  unites id k other l = unites_as id k other l k.view.seen (λ h own others. own)

  -- at the end the shorter history is kept in mind
  pub gathers : (id : ℕ) (k : Knowledge U) (other : ℕ) (l : Knowledge U)
      → Joins {S = S} (Shows lawful allowed g) id k other l (gathered k l) spent
  gathers id k other l = unites_as id k other l (shorter k.view.seen l.view.seen)
      (λ h own others. one_begins (nat_lt (length k.view.seen) (length l.view.seen)) h own others)
    where
      one_begins : (t : Bool) (h : List Entry) → Begins k.view.seen h → Begins l.view.seen h
          → Begins (if t then k.view.seen else l.view.seen) h
      one_begins true h own others = own
      one_begins false h own others = others

  -- a note is split off a seat that goes on as it was
  pub copies : (id : ℕ) (k : Knowledge U) → Splits {S = S} (Shows lawful allowed g) id k k (noted k)
  copies id k = cuts id k k (noted k) (sym (append-nil k.view.parts)) refl refl (λ h b. b)
      (λ h. nothing_begins h)

  -- a load at which a seat hears that what it keeps in mind begins what it has seen
  pub hears : (slots id : ℕ) (k : Knowledge U) (held : List (ℕ × S)) (i : ℕ)
      → Allows {S = S} (Shows lawful allowed g) slots id (k, held) i (λ n. n)
      (λ _ w. Heard k w.0 × (w.1 ≡ held))
  hears slots id k held i s shows homes at small =
      let c : Core U = shows.core in
      let l : Knowledge U = record k { steps = k.steps + 1; before = [] } in (
        l,
        keeps,
        tt,
        record {
          core = c;
          good = shows.good;
          depicts = record {
            words_are = shows.depicts.words_are ∙ sym (set_same s.words i);
            views_are = shows.depicts.views_are
                ∙ (sym (set_there (map seen_by s.views) id k.view (at_map seen_by s.views id k at))
                ∙ sym (map-set seen_by s.views id l));
          };
          low = shows.low;
          before = subst (λ (h : List Entry). (j : ℕ) (u : Knowledge U)
              → get_elem? (slice_set s.views id l) j ≡ some u → Begins u.before h)
              (append-nil c.heap.history) (before_now s c.heap.history [] id l refl shows.before);
        },
        (
          record {
            is = refl;
            begins = right_begins k.view.seen k.before c.heap.history
                (shows.good.seen id k.view (seat_in s shows id k at)) (shows.before id k at);
          },
          refl,
        ),
      )
