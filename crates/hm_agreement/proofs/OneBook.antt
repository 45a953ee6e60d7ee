-- A store shows at most one book.
use Rattle.std.proofs.Common.{◌≡◌, ◌<◌, Bool, true, false, cond, List, [], ◌∷◌, map, filter, slice_index, inl, inr, refl, sym, ap, ◌∙◌, subst, arith, if◌then◌else◌}
use Rattle.std.specs.List.{Contains, All}
use Rattle.std.proofs.lemmas.Bool.{false≢true}
use Rattle.std.proofs.lemmas.List.Elements.{All-contains}
use Rattle.hm_orders.specs.declared.order.Side.{Side}
use Rattle.hm_orders.specs.declared.order.Side.TheVariants.{Buy, Sell, Neither}
use Rattle.hm_orders.specs.Orders.{IsTradingSide}
use Rattle.hm_model.specs.declared.object.Contents.{Contents}
use Rattle.hm_model.specs.Store.{PlainStore}
use Rattle.hm_model.specs.Sight.{name_at}
use Rattle.hm_list.specs.declared.key.Key.{Key}
use Rattle.hm_list.specs.declared.key.Pair.{Pair}
use Rattle.hm_list.specs.Pairs.{is_less, is_same, insert}
use Rattle.hm_list.proofs.Finite.{one_list}
use Rattle.hm_book.specs.declared.book.Resting.{Resting}
use Rattle.hm_book.proofs.Members.{Contains-nil, Contains-first, Contains-cons, Contains-cons_cases, at_member}
use Rattle.hm_book.proofs.Rising.{Rises, Rises-from_pairs}
use Rattle.hm_agreement.specs.Cells.{IsNode, IsInRange, is_buying, is_selling, load_of, bid_of, ask_of, in_order, bids_of, asks_of}
use Rattle.hm_agreement.specs.Agreed.{HasBook}

-- a pair that is inserted is there
insert_has : (q : Pair) (ps : List Pair) → Contains (insert q ps) q
insert_has q [] = Contains-first q [] q refl
insert_has q (p ∷ ps) = go (is_less p.key q.key) (is_same p.key q.key) (insert_has q ps)
  where
    go : (less same : Bool) → Contains (insert q ps) q
        → Contains (if less then p ∷ insert q ps else (if same then q ∷ ps else q ∷ p ∷ ps)) q
    go true same rest = Contains-cons p (insert q ps) q rest
    go false true rest = Contains-first q ps q refl
    go false false rest = Contains-first q (p ∷ ps) q refl

-- keys that are the same have one second number
same_second : (x y : Key) → is_same x y ≡ true → x.b ≡ y.b
same_second x y h = grind arith

-- one with another key stays there
insert_keeps : (q : Pair) (ps : List Pair) (x : Pair) → (x.key.b ≡ q.key.b → ⊥) → Contains ps x
    → Contains (insert q ps) x
insert_keeps q [] x other there = absurd (Contains-nil x there)
insert_keeps q (p ∷ ps) x other there =
    go (is_less p.key q.key) (is_same p.key q.key) refl (insert_keeps q ps x other)
  where
    go : (less same : Bool) → is_same p.key q.key ≡ same → (Contains ps x → Contains (insert q ps) x)
        → Contains (if less then p ∷ insert q ps else (if same then q ∷ ps else q ∷ p ∷ ps)) x
    go true same e rest = elim (Contains-cons_cases p ps x there) [
      | inl first ↦ Contains-first p (insert q ps) x first
      | inr further ↦ Contains-cons p (insert q ps) x (rest further)
    ]
    go false true e rest = elim (Contains-cons_cases p ps x there) [
      | inl first ↦ absurd (other (sym (ap (λ (y : Pair). y.key.b) first) ∙ same_second p.key q.key e))
      | inr further ↦ Contains-cons q ps x further
    ]
    go false false e rest = Contains-cons q (p ∷ ps) x there

-- what is there was inserted or was there before
insert_cases : (q : Pair) (ps : List Pair) (x : Pair) → Contains (insert q ps) x → Contains (q ∷ ps) x
insert_cases q [] x h = h
insert_cases q (p ∷ ps) x h = go (is_less p.key q.key) (is_same p.key q.key) h (insert_cases q ps x)
  where
    go : (less same : Bool)
        → Contains (if less then p ∷ insert q ps else (if same then q ∷ ps else q ∷ p ∷ ps)) x
        → (Contains (insert q ps) x → Contains (q ∷ ps) x) → Contains (q ∷ p ∷ ps) x
    go true same h rest = elim (Contains-cons_cases p (insert q ps) x h) [
      | inl first ↦ Contains-cons q (p ∷ ps) x (Contains-first p ps x first)
      | inr further ↦ elim (Contains-cons_cases q ps x (rest further)) [
        | inl first ↦ Contains-first q (p ∷ ps) x first
        | inr behind ↦ Contains-cons q (p ∷ ps) x (Contains-cons p ps x behind)
      ]
    ]
    go false true h rest = elim (Contains-cons_cases q ps x h) [
      | inl first ↦ Contains-first q (p ∷ ps) x first
      | inr behind ↦ Contains-cons q (p ∷ ps) x (Contains-cons p ps x behind)
    ]
    go false false h rest = h

-- two orders are equal where their sides, root numbers and loads are
same_resting : (r t : Resting) → r.side ≡ t.side → r.root ≡ t.root
    → load_of r ≡ load_of t → r ≡ t
same_resting r t side root load = λ i. record {
  side = side i;
  price = slice_index (load i) 0;
  root = root i;
  file = slice_index (load i) 1;
  row = slice_index (load i) 2;
  id = slice_index (load i) 3;
  quantity = slice_index (load i) 4;
}

-- an order of the book has a pair in a list
pub record HasPair (pair : Resting → Pair) (keep : Resting → Bool) (book : List Resting) (p : Pair)
    : Type 0 where
  pub resting : Resting
  pub in_book : Contains book resting
  pub kept : keep resting ≡ true
  pub has : pair resting ≡ p

module _ (pair : Resting → Pair) (rooted : (r : Resting) → (pair r).key.b ≡ r.root)
    (keep : Resting → Bool) where
  -- the pairs of those orders of a book that pass a test, in order of keys
  abbrev pairs : List Resting → List Pair
  pairs book = in_order (map pair (filter keep book))

  -- each such order has its pair among them, where root numbers rise
  pub pair_there : (book : List Resting) (r : Resting) → Rises book → Contains book r → keep r ≡ true
      → Contains (pairs book) (pair r)
  pair_there [] r rises there passes = absurd (Contains-nil r there)
  pair_there (y ∷ book) r rises there passes = go (keep y) refl (pair_there book r rises.1)
    where
      go : (b : Bool) → keep y ≡ b → (Contains book r → keep r ≡ true → Contains (pairs book) (pair r))
          → Contains (in_order (map pair (cond b (y ∷ filter keep book) (filter keep book)))) (pair r)
      go true e rest = elim (Contains-cons_cases y book r there) [
        | inl first ↦ subst (λ (z : Resting). Contains (insert (pair y) (pairs book)) (pair z)) first
            (insert_has (pair y) (pairs book))
        | inr further ↦
            let above : y.root < r.root = at_member (λ later. y.root < later.root) book r rises.0 further in
            insert_keeps (pair y) (pairs book) (pair r)
            (λ same. let e : r.root ≡ y.root = sym (rooted r) ∙ (same ∙ rooted y) in absurd (omega arith))
            (rest further passes)
      ]
      go false e rest = elim (Contains-cons_cases y book r there) [
        | inl first ↦ absurd (false≢true (sym e ∙ (ap keep first ∙ passes)))
        | inr further ↦ rest further passes
      ]

  -- and each pair is that of an order
  pub pair_back : (book : List Resting) (p : Pair) → Contains (pairs book) p → HasPair pair keep book p
  pair_back [] p h = absurd (Contains-nil p h)
  pair_back (y ∷ book) p h = go (keep y) refl h (pair_back book p)
    where
      further : HasPair pair keep book p → HasPair pair keep (y ∷ book) p
      further w = record {
        resting = w.resting;
        in_book = Contains-cons y book w.resting w.in_book;
        kept = w.kept;
        has = w.has;
      }

      go : (b : Bool) → keep y ≡ b
          → Contains (in_order (map pair (cond b (y ∷ filter keep book) (filter keep book)))) p
          → (Contains (pairs book) p → HasPair pair keep book p) → HasPair pair keep (y ∷ book) p
      go true e h rest =
          let there = insert_cases (pair y) (pairs book) p h in
          elim (Contains-cons_cases (pair y) (pairs book) p there) [
            | inl first ↦ record { resting = y; in_book = Contains-first y book y refl; kept = e; has = first }
            | inr behind ↦ further (rest behind)
          ]
      go false e h rest = further (rest h)

  module _ (loaded : (r : Resting) → (pair r).load ≡ load_of r)
      (alike : (r t : Resting) → keep r ≡ true → keep t ≡ true → r.side ≡ t.side) where
    -- where they are all on one side, they are in each book with the same pairs
    pub one_side_moves : (a b : List Resting) → Rises a → pairs a ≡ pairs b → (r : Resting) → Contains a r
        → keep r ≡ true → Contains b r
    one_side_moves a b rises same r there kept =
        let here : Contains (pairs a) (pair r) = pair_there a r rises there kept in
        let w = pair_back b (pair r) (subst (λ (ps : List Pair). Contains ps (pair r)) same here) in
        subst (Contains b)
        (same_resting w.resting r (alike w.resting r w.kept kept)
        (sym (rooted w.resting) ∙ (ap (λ (p : Pair). p.key.b) w.has ∙ rooted r))
        (sym (loaded w.resting) ∙ (ap (λ (p : Pair). p.load) w.has ∙ loaded r))) w.in_book

-- two sides that are buying are one
both_buy : (x y : Side) → is_buying x ≡ true → is_buying y ≡ true → x ≡ y
both_buy Buy Buy h k = refl
both_buy Buy Sell h k = absurd (false≢true k)
both_buy Buy Neither h k = absurd (false≢true k)
both_buy Sell y h k = absurd (false≢true h)
both_buy Neither y h k = absurd (false≢true h)

-- so are two that are selling
both_sell : (x y : Side) → is_selling x ≡ true → is_selling y ≡ true → x ≡ y
both_sell Sell Sell h k = refl
both_sell Sell Buy h k = absurd (false≢true k)
both_sell Sell Neither h k = absurd (false≢true k)
both_sell Buy y h k = absurd (false≢true h)
both_sell Neither y h k = absurd (false≢true h)

-- the orders of a book are in each book with the same bids and asks
all_move : (a b : List Resting) → Rises a → All IsInRange a → bids_of a ≡ bids_of b
    → asks_of a ≡ asks_of b → (r : Resting) → Contains a r → Contains b r
unfolding one_side_moves
all_move a b rises ranges bids asks r there =
    go r.side refl (All-contains IsInRange a r ranges there).side
  where
    go : (side : Side) → r.side ≡ side → IsTradingSide side → Contains b r
    go Buy is trades = one_side_moves bid_of (λ r. refl) (λ r. is_buying r.side) (λ r. refl)
        (λ r t. both_buy r.side t.side) a b rises bids r there (ap is_buying is)
    go Sell is trades = one_side_moves ask_of (λ r. refl) (λ r. is_selling r.side) (λ r. refl)
        (λ r t. both_sell r.side t.side) a b rises asks r there (ap is_selling is)
    go Neither is trades = absurd trades

-- two books in which root numbers rise are equal where they have the same orders
pub same_orders : (a b : List Resting) → Rises a → Rises b → ((r : Resting) → Contains a r → Contains b r)
    → ((r : Resting) → Contains b r → Contains a r) → a ≡ b
same_orders [] [] up_a up_b into back = refl
same_orders [] (y ∷ b) up_a up_b into back = absurd (Contains-nil y (back y (Contains-first y b y refl)))
same_orders (x ∷ a) [] up_a up_b into back = absurd (Contains-nil x (into x (Contains-first x a x refl)))
same_orders (x ∷ a) (y ∷ b) up_a up_b into back =
    let behind_x : (r : Resting) → Contains a r → x.root < r.root =
    λ r there. at_member (λ later. x.root < later.root) a r up_a.0 there in
    let behind_y : (r : Resting) → Contains b r → y.root < r.root =
    λ r there. at_member (λ later. y.root < later.root) b r up_b.0 there in
    let first : x ≡ y = elim (Contains-cons_cases y b x (into x (Contains-first x a x refl))) [
      | inl same ↦ sym same
      | inr far ↦ elim (Contains-cons_cases x a y (back y (Contains-first y b y refl))) [
        | inl same ↦ same
        | inr further ↦ absurd (omega (arith, behind_y x far, behind_x y further))
      ]
    ] in
    let root : x.root ≡ y.root = ap (λ (r : Resting). r.root) first in
    let rest : a ≡ b = same_orders a b up_a.1 up_b.1
    (λ r there. elim (Contains-cons_cases y b r (into r (Contains-cons x a r there))) [
      | inl same ↦ absurd (omega (arith, root, ap (λ (r : Resting). r.root) same, behind_x r there))
      | inr further ↦ further
    ])
    (λ r there. elim (Contains-cons_cases x a r (back r (Contains-cons y b r there))) [
      | inl same ↦ absurd (omega (arith, root, ap (λ (r : Resting). r.root) same, behind_y r there))
      | inr further ↦ further
    ]) in
    λ i. first i ∷ rest i

-- a store shows at most one book
pub one_book : (s : PlainStore) (common : Contents) (a b : List Resting) → HasBook s common a
    → HasBook s common b → a ≡ b
one_book s common a b h k =
    let up_a = Rises-from_pairs a h.rising in
    let up_b = Rises-from_pairs b k.rising in
    let bids : bids_of a ≡ bids_of b =
    one_list IsNode s (name_at common.refs 0) (bids_of a) (bids_of b) h.shows.bids k.shows.bids in
    let asks : asks_of a ≡ asks_of b =
    one_list IsNode s (name_at common.refs 1) (asks_of a) (asks_of b) h.shows.asks k.shows.asks in
    same_orders a b up_a up_b (all_move a b up_a h.shows.ranges bids asks)
    (all_move b a up_b k.shows.ranges (sym bids) (sym asks))
