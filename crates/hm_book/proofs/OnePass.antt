-- The fills along a queue leave of a book what one pass over it leaves.
use Rattle.std.proofs.Common.{◌≡◌, ℕ, ◌+◌, ◌-◌, ◌≤◌, ◌==◌, min, leb, ltb, Bool, true, false, not, ◌&&◌, cond, if◌then◌else◌, List, [], ◌∷◌, ◌++◌, Option, Some, None, unwrap_or, refl, sym, ap, ◌∙◌, subst, inl, inr, arith}
use Rattle.std.specs.Option.{option_map_or}
use Rattle.std.specs.List.{Contains, retain_mut}
use Rattle.std.proofs.lemmas.Bool.{cases_lt, false≢true, eq-eqb, ne_eqb, lt-ltb, le-ltb, lt-leb, le-leb, cond-true, cond-false}
use Rattle.std.proofs.lemmas.Option.{none-some, same_Some}
use Rattle.std.proofs.lemmas.List.Elements.{Contains-append_left, Contains-append_right}
use Rattle.hm_orders.specs.declared.order.Order.{Order}
use Rattle.hm_orders.specs.declared.order.Side.{Side}
use Rattle.hm_book.specs.declared.book.Resting.{Resting}
use Rattle.hm_book.specs.Trading.{opposes, crosses, goes_before, fill_with, after_taking, after_fill}
use Rattle.hm_book.specs.Best.{NoneGoesBefore}
use Rattle.hm_book.specs.Queue.{IsQueue, fills_along, book_after_all, stays, stays_as}
use Rattle.hm_book.proofs.PriorityOrder.{goes_before_order, goes_before-itself, crosses-better}
use Rattle.hm_book.proofs.Members.{Contains-first, Contains-cons, Contains-cons_cases, at_member}
use Rattle.hm_book.proofs.Rising.{Rises, same_from_root, Rises-after_fill, AreOthers, Splits, split_at}
use Rattle.hm_book.proofs.Taking.{after_fill-at, after_fill-all}
use Rattle.hm_book.proofs.QueueSteps.{Suits, first_before, first_in_book, first_opposes, IsQueue-used_up}
use Rattle.hm_book.proofs.Crossed.{AllCrossed, crossed_others}

-- ---- a pass over a list

module _ {X : Type 0} (test : X → Bool) (change : X → X) where
  -- one step of the lemma below
  retain_one : (b : Bool) (x : X) (xs ys : List X) → cond b (x ∷ (xs ++ ys)) (xs ++ ys) ≡ cond b (x ∷ xs) xs ++ ys
  retain_one true x xs ys = refl
  retain_one false x xs ys = refl

  -- a pass over two lists, one after the other
  retain_mut-append : (xs ys : List X) → retain_mut test change (xs ++ ys) ≡ retain_mut test change xs ++ retain_mut test change ys
  retain_mut-append [] ys = refl
  retain_mut-append (x ∷ xs) ys =
      ap (λ rest. cond (test x) (change x ∷ rest) rest) (retain_mut-append xs ys)
      ∙ retain_one (test x) (change x) (retain_mut test change xs) (retain_mut test change ys)

  -- each element stays as it is
  abbrev AreKept : List X → Type 0
  AreKept xs = (x : X) → Contains xs x → (test x ≡ true) × (change x ≡ x)

  -- then so does the list
  retain_mut-all : (xs : List X) → AreKept xs → retain_mut test change xs ≡ xs
  retain_mut-all [] kept = refl
  retain_mut-all (x ∷ xs) kept =
      let first : (test x ≡ true) × (change x ≡ x) = kept x (Contains-first x xs x refl) in
      cond-true (test x) (change x ∷ retain_mut test change xs) (retain_mut test change xs) first.0
      ∙ ap (λ y. y ∷ retain_mut test change xs) first.1
      ∙ ap (λ rest. x ∷ rest) (retain_mut-all xs (λ y there. kept y (Contains-cons x xs y there)))

-- ---- the pass over a book, up to a last maker

module _ (side : Side) (last : Resting) (quantity : ℕ) where
  -- an order that does not go before the last maker on its side stays as it is
  other_stays : (other : Resting) (b o : Bool) → (other.root == last.root) ≡ b → opposes side other.side ≡ o → b ≡ false
      → (opposes side other.side ≡ true → goes_before side other last ≡ false)
      → (stays side last quantity other ≡ true) × (stays_as last quantity other ≡ other)
  other_stays other true o e f apart not_before = absurd (false≢true (sym apart))
  other_stays other false true e f apart not_before = (
    cond-false _ _ _ e ∙ ap (λ x. not (x && goes_before side other last)) f ∙ ap not (not_before f),
    cond-false _ _ _ e,
  )
  other_stays other false false e f apart not_before = (
    cond-false _ _ _ e ∙ ap (λ x. not (x && goes_before side other last)) f,
    cond-false _ _ _ e,
  )

  -- one that does goes
  used_up_goes : (other : Resting) → (other.root == last.root) ≡ false → opposes side other.side ≡ true
      → goes_before side other last ≡ true → stays side last quantity other ≡ false
  used_up_goes other apart opposite before =
      cond-false _ _ _ apart ∙ ap (λ x. not (x && goes_before side other last)) opposite ∙ ap not before

  -- an order goes or stays as something is taken from it
  taken_or_kept : (left : Resting) (rest : List Resting)
      → cond (ltb quantity last.quantity) (left ∷ rest) rest ≡ cond (leb last.quantity quantity) [] (left ∷ []) ++ rest
  taken_or_kept left rest = elim (cases_lt quantity last.quantity) [
    | inl some ↦
        cond-true _ _ _ (lt-ltb _ _ some) ∙ sym (ap (λ b. cond b [] (left ∷ []) ++ rest) (lt-leb _ _ some))
    | inr all ↦
        cond-false _ _ _ (le-ltb _ _ all) ∙ sym (ap (λ b. cond b [] (left ∷ []) ++ rest) (le-leb _ _ all))
  ]

  -- of the last maker the pass takes what its fill takes
  at_last : (rest : List Resting)
      → cond (stays side last quantity last) (stays_as last quantity last ∷ rest) rest ≡ after_taking quantity last ++ rest
  at_last rest =
      let left = record last { quantity = last.quantity - quantity } in
      let itself : (last.root == last.root) ≡ true = eq-eqb last.root last.root refl in
      let used_up = not (opposes side last.side && goes_before side last last) in
      ap (λ b. cond (cond b (ltb quantity last.quantity) used_up) (cond b left last ∷ rest) rest) itself
      ∙ taken_or_kept left rest

-- the pass up to a last maker, with what is taken from it
abbrev pub passed : Side → List Resting → Resting × ℕ → List Resting
passed side book last = retain_mut (stays side last.0 last.1) (stays_as last.0 last.1) book

module _ (book : List Resting) (maker : Resting) (s : Splits book maker) where
  -- the orders before the maker are of the book
  in_front : (other : Resting) → Contains s.front other → Contains book other
  in_front other there =
      subst (λ b. Contains b other) (sym s.whole) (Contains-append_left s.front (maker ∷ s.back) other there)

  -- so are those behind it
  in_back : (other : Resting) → Contains s.back other → Contains book other
  in_back other there =
      subst (λ b. Contains b other) (sym s.whole)
      (Contains-append_right s.front (maker ∷ s.back) other (Contains-cons maker s.back other there))

  -- a fill with the best opposite order is a pass up to it
  pub one_fill-one_pass : (side : Side) (quantity : ℕ) → NoneGoesBefore side book maker
      → after_fill maker.root quantity book ≡ passed side book (maker, quantity)
  one_fill-one_pass side quantity first =
      let test = stays side maker quantity in
      let change = stays_as maker quantity in
      let pass = retain_mut test change in
      let kept = λ (others : List Resting) (apart : AreOthers maker others) (inside : (other : Resting) → Contains others other → Contains book other) (other : Resting) (there : Contains others other).
      other_stays side maker quantity other (other.root == maker.root) (opposes side other.side) refl refl
      (at_member (λ o. (o.root == maker.root) ≡ false) others other apart there) (first other (inside other there)) in
      let front = retain_mut-all test change s.front (kept s.front s.before in_front) in
      let back = retain_mut-all test change s.back (kept s.back s.behind in_back) in
      after_fill-at book maker s quantity
      ∙ sym (ap (λ xs. xs ++ (after_taking quantity maker ++ s.back)) front)
      ∙ sym (ap (λ xs. pass s.front ++ (after_taking quantity maker ++ xs)) back)
      ∙ sym (ap (λ xs. pass s.front ++ xs) (at_last side maker quantity (pass s.back)))
      ∙ sym (retain_mut-append test change s.front (maker ∷ s.back))
      ∙ sym (ap pass s.whole)

  -- a pass takes out a maker that is used up before the last one
  pub used_up-one_pass : (side : Side) (taken : ℕ) (last : Resting × ℕ) → maker.quantity ≤ taken → opposes side maker.side ≡ true
      → goes_before side maker last.0 ≡ true → (maker.root == last.0.root) ≡ false
      → passed side (after_fill maker.root taken book) last ≡ passed side book last
  used_up-one_pass side taken last all opposite before apart =
      let test = stays side last.0 last.1 in
      let change = stays_as last.0 last.1 in
      let pass = retain_mut test change in
      let goes = used_up_goes side last.0 last.1 maker apart opposite before in
      ap pass (after_fill-all book maker s taken all)
      ∙ retain_mut-append test change s.front s.back
      ∙ sym (ap (λ xs. pass s.front ++ xs) (cond-false (test maker) (change maker ∷ pass s.back) (pass s.back) goes))
      ∙ sym (retain_mut-append test change s.front (maker ∷ s.back))
      ∙ sym (ap pass s.whole)

-- ---- the last maker

-- the last maker of an order along a queue, and what is taken from it
abbrev pub last_taken : ℕ → List Resting → Option (Resting × ℕ)
last_taken left [] = None
last_taken left (maker ∷ queue) =
    let later = last_taken (left - maker.quantity) queue in
    if left == 0 then None else Some (unwrap_or later (maker, min left maker.quantity))

-- where nothing is left, there is none
last_taken-none : (queue : List Resting) → last_taken 0 queue ≡ None
last_taken-none [] = refl
last_taken-none (maker ∷ queue) = refl

-- where nothing is left, there are no fills
pub fills_along-none : (number taker : ℕ) (queue : List Resting) → fills_along number taker 0 queue ≡ []
fills_along-none number taker [] = refl
fills_along-none number taker (maker ∷ queue) = refl

-- one step of the lemma below
last_in : (queue : List Resting) (maker : Resting) (k : ℕ) (b : Bool) (o : Option (Resting × ℕ)) (last : Resting × ℕ)
    → cond b None (Some (unwrap_or o (maker, k))) ≡ Some last
    → ((other : Resting × ℕ) → o ≡ Some other → Contains queue other.0) → Contains (maker ∷ queue) last.0
last_in queue maker k true o last is rest = absurd (none-some last is)
last_in queue maker k false None last is rest =
    Contains-first maker queue last.0 (ap (λ (l : Resting × ℕ). l.0) (same_Some (maker, k) last is))
last_in queue maker k false (Some other) last is rest =
    Contains-cons maker queue last.0 (subst (λ (l : Resting × ℕ). Contains queue l.0) (same_Some other last is) (rest other refl))

-- the last maker is of the queue
last_in_queue : (left : ℕ) (queue : List Resting) (last : Resting × ℕ) → last_taken left queue ≡ Some last → Contains queue last.0
last_in_queue left [] last is = absurd (none-some last is)
last_in_queue left (maker ∷ queue) last is =
    let later = last_taken (left - maker.quantity) queue in
    last_in queue maker (min left maker.quantity) (left == 0) later last is (last_in_queue (left - maker.quantity) queue)

-- ---- all fills along a queue

module _ (order : Order) (test : Resting → Bool) (suits : Suits order test) where
  module _ (book queue : List Resting) (maker : Resting) (is : IsQueue order.side test book (maker ∷ queue))
      (crossed : crosses order maker ≡ true) where
    -- an opposite order that went before the first of a queue would be of the queue
    first_of_all : (other : Resting) → Contains book other → opposes order.side other.side ≡ true
        → goes_before order.side other maker ≡ true → ⊥
    first_of_all other there opposite before =
        let not_after = (goes_before_order order.side).one_way other maker before in
        let passes = suits.crossed other opposite (crosses-better order maker other crossed not_after) in
        elim (Contains-cons_cases maker queue other ((is.members other).1 (there, passes))) [
          | inl same ↦
              let itself = subst (λ o. goes_before order.side o maker ≡ true) (sym same) before in
              false≢true (sym (goes_before-itself order.side maker) ∙ itself)
          | inr further ↦ false≢true (sym not_after ∙ first_before order.side test book queue maker is other further)
        ]

    -- no opposite order goes before the first of a queue, by what the test says
    none_before_by : (other : Resting) (b : Bool) → goes_before order.side other maker ≡ b → Contains book other
        → opposes order.side other.side ≡ true → b ≡ false
    none_before_by other true e there opposite = absurd (first_of_all other there opposite e)
    none_before_by other false e there opposite = refl

    -- no opposite order goes before the first of a queue
    none_before : NoneGoesBefore order.side book maker
    none_before other there opposite = none_before_by other (goes_before order.side other maker) refl there opposite

    -- a fill with the first of a queue is a pass up to it
    first_pass : (quantity : ℕ) → Rises book → after_fill maker.root quantity book ≡ passed order.side book (maker, quantity)
    first_pass quantity rises =
        let s = split_at book maker rises (first_in_book order.side test book queue maker is) in
        one_fill-one_pass book maker s order.side quantity none_before

    -- the first of a queue, which goes before a later order of it, has another root number
    first_differs : (other : Resting) → Rises book → Contains queue other → (maker.root == other.root) ≡ false
    first_differs other rises there =
        let in_book = ((is.members other).0 (Contains-cons maker queue other there)).0 in
        let before = first_before order.side test book queue maker is other there in
        ne_eqb maker.root other.root (λ same.
        let one = same_from_root book maker other rises (first_in_book order.side test book queue maker is) in_book same in
        let itself = subst (λ o. goes_before order.side maker o ≡ true) (sym one) before in
        false≢true (sym (goes_before-itself order.side maker) ∙ itself))

    -- after the first fill, which uses its maker up: the pass up to the last maker, which may be the first
    after_first : (taken : ℕ) (o : Option (Resting × ℕ)) → Rises book → maker.quantity ≤ taken
        → ((last : Resting × ℕ) → o ≡ Some last → Contains queue last.0)
        → option_map_or (passed order.side (after_fill maker.root taken book)) o (after_fill maker.root taken book)
        ≡ passed order.side book (unwrap_or o (maker, taken))
    after_first taken None rises all inside = first_pass taken rises
    after_first taken (Some last) rises all inside =
        let s = split_at book maker rises (first_in_book order.side test book queue maker is) in
        let there = inside last refl in
        used_up-one_pass book maker s order.side taken last all (first_opposes order test suits book maker queue is)
        (first_before order.side test book queue maker is last.0 there) (first_differs last.0 rises there)

  module _ (taker : ℕ) where
    -- the pass, by whether nothing is left, if it is right after a first fill
    pass_by : (number left : ℕ) (maker : Resting) (queue book : List Resting) (none : Bool)
        → (let fill = fill_with number taker left maker in
        let more = fills_along (number + 1) taker (left - maker.quantity) queue in
        let last = unwrap_or (last_taken (left - maker.quantity) queue) (maker, min left maker.quantity) in
        book_after_all more (after_fill maker.root fill.quantity book) ≡ passed order.side book last
        → book_after_all (cond none [] (fill ∷ more)) book ≡ option_map_or (passed order.side book) (cond none None (Some last)) book)
    pass_by number left maker queue book true rest = refl
    pass_by number left maker queue book false rest = rest

    -- the book after the fills along its queue is the book after a pass up to the last maker, if there is one
    pub book_after_all-one_pass : (number left : ℕ) (book queue : List Resting) → Rises book → IsQueue order.side test book queue
        → AllCrossed order queue
        → book_after_all (fills_along number taker left queue) book ≡ option_map_or (passed order.side book) (last_taken left queue) book
    book_after_all-one_pass number left book [] rises is crossed = refl
    book_after_all-one_pass number left book (maker ∷ queue) rises is crossed =
        let taken = min left maker.quantity in
        let after = after_fill maker.root taken book in
        let first = crossed maker (Contains-first maker queue maker refl) in
        pass_by number left maker queue book (left == 0) (elim (cases_lt left maker.quantity) [
          | inl more ↦
              let none : left - maker.quantity ≡ 0 = omega arith in
              ap (λ n. book_after_all (fills_along (number + 1) taker n queue) after) none
              ∙ ap (λ fills. book_after_all fills after) (fills_along-none (number + 1) taker queue)
              ∙ first_pass book queue maker is first taken rises
              ∙ sym (ap (λ o. passed order.side book (unwrap_or o (maker, taken))) (ap (λ n. last_taken n queue) none ∙ last_taken-none queue))
          | inr all ↦
              let others = IsQueue-used_up order.side test maker taken book queue rises (omega arith) is in
              book_after_all-one_pass (number + 1) (left - maker.quantity) after queue (Rises-after_fill maker.root taken book rises) others
              (crossed_others order maker queue crossed)
              ∙ after_first book queue maker is first taken (last_taken (left - maker.quantity) queue) rises (omega arith)
              (last_in_queue (left - maker.quantity) queue)
        ])
