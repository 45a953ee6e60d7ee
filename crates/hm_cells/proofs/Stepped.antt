-- What a move leaves of what a pass knew, for the calls that take several.
use Rattle.std.proofs.Common.{◌≡◌, ◌≢◌, ◌⊎◌, ◌<◌, ◌≤◌, ◌+◌, ◌&&◌, ℕ, zero, suc, Bool, true, false, true≢false, List, [], ◌∷◌, ◌++◌, length, get_or, set, Option, Some, None, IfSome, Contains, unwrap_or, if◌then◌else◌, eqb-true, refl, sym, ap, ◌∙◌, subst, arith, inl, inr, ⊎_elim, get_or-set_same, get_or-set_other}
use Rattle.hm_cells.proofs.Words.{each_some, from_some, common_steps, nat_tests, ◌==◌, All-contains, Contains-append_right, Version, naming_word, Entry, PlainStore, Known, Part, Looks, Builds, Ticks, Shifts, LoadReference, LoadNumber, StoreOwn, Publish, LinkStore, Shorten, IsFit, publishes, listed, field_look}
use Rattle.hm_moves.proofs.Heaps.{IsWork}
use Rattle.hm_cells.proofs.Words.{is_naming, unnamed_from, unnamed, written_with, IsWritten, done_limit, Facts, IsHeldAt, IsLookable, IsSound, find_version, first_idle, known_at, lookable, nothing_known, Steps, taken}
use Rattle.hm_moves.specs.declared.moving.Act.{Act}
use Rattle.hm_cells.proofs.Fields.{field_cases}
use Rattle.hm_cells.proofs.Few.{few_after, not_both}
use Rattle.hm_cells.proofs.Found.{IsNamed, among, at_place, found_first, idle_other, named_stays, there_found, there_is}
use Rattle.hm_cells.proofs.Ready.{known_look, look_fit}
use Rattle.hm_cells.proofs.Working.{still_readied}

-- a word of a version, by which act it is loaded
pub reference_look : (k : Known) (i : ℕ) → i < 4 → field_look k (2 + i) ≡ LoadReference k i
reference_look k i low = field_cases (λ l. l ≡ LoadReference k i) k (2 + i) (omega arith) (omega arith)
    (λ e. absurd (omega arith))
    (λ j small e. let same : j ≡ i = omega arith in ap (LoadReference k) same)
    (λ j small e. absurd (omega arith))

pub number_look : (k : Known) (i : ℕ) → i < 10 → field_look k (6 + i) ≡ LoadNumber k i
number_look k i low = field_cases (λ l. l ≡ LoadNumber k i) k (6 + i) (omega arith) (omega arith)
    (λ e. absurd (omega arith))
    (λ j small e. absurd (omega arith))
    (λ j small e. let same : j ≡ i = omega arith in ap (LoadNumber k) same)

-- words of a draft that stay written where a version is let go
unnamed_still_from : (k : Known) (i : ℕ) (l : List (Option ℕ)) (j w : ℕ) → get_or l j None ≡ Some w
    → (is_naming (j + i) && (w == naming_word (Some k.version))) ≡ false
    → get_or (unnamed_from k i l) j None ≡ Some w
unnamed_still_from k i [] j w e h = e
unnamed_still_from k i (x ∷ xs) zero w e h = grind (arith, common_steps, nat_tests)
unnamed_still_from k i (x ∷ xs) (suc j) w e h = grind (arith, common_steps, unnamed_still_from k (i + 1) xs j w)

unnamed_still : (o : Option Known) (l : List (Option ℕ)) (j w : ℕ) → IsWritten l j w
    → IfSome o (λ k. (is_naming j && (w == naming_word (Some k.version))) ≡ false)
    → IsWritten (unnamed o l) j w
unnamed_still None l j w e h = e
unnamed_still (Some k) l j w e h = grind (arith, unnamed_still_from k 0 l j w e)

module _ {U : Type 0} (lawful : U → PlainStore → Type 0) (allowed : U → PlainStore → Entry → Type 0) where
  -- a root place or the hand names a version
  abbrev pub IsKept : Facts U → Version → Type 0
  IsKept s v = ((i : ℕ) × (get_or s.roots i None ≡ Some v)) ⊎ Contains s.hand v

  kept_named : (s : Facts U) (v : Version) → IsKept s v → IsNamed s.roots s.hand v
  kept_named s v kept = ⊎_elim
      (λ (t : (i : ℕ) × (get_or s.roots i None ≡ Some v)). inl (at_place s.roots t.0 (Some v) None t.1
      (λ e. cc)))
      (λ (t : Contains s.hand v). inr t) kept

  -- a held version is what is known of it, and so is any that may be looked into
  pub kept_held : (s : Facts U) (v : Version) → IsSound lawful allowed s → IsKept s v → IsHeldAt s v
  kept_held s v sound kept = ⊎_elim
      (λ (t : Contains s.roots (Some v)). All-contains (λ r. IfSome r (IsHeldAt s)) s.roots
      (Some v) sound.rooted t)
      (λ (t : Contains s.hand v). All-contains (IsHeldAt s) s.hand v sound.handed t) (kept_named s v kept)

  look_first : (s : Facts U) (v : Version) (k : Known) → find_version s.part.hands.held v ≡ Some k
      → find_version (lookable s.part) v ≡ Some k
  look_first s v k e = found_first s.part.hands.held s.part.hands.own v k e

  known_is : (s : Facts U) (v : Version) (k : Known) → find_version s.part.hands.held v ≡ Some k
      → known_at s v ≡ k
  known_is s v k e = ap (λ (o : Option Known). unwrap_or o nothing_known) (look_first s v k e)

  pub held_lookable : (s : Facts U) (v : Version) → IsHeldAt s v → IsLookable s v
  held_lookable s v held =
      let m = among s.part.hands.held v held in ap Rattle.std.proofs.Common.is_some (look_first s v m.0 m.1)

  pub known_version : (s : Facts U) (v : Version) → IsLookable s v → (known_at s v).version ≡ v
  known_version s v look = (known_look s v look).1

  pub known_fit : (s : Facts U) (v : Version) → IsSound lawful allowed s → IsLookable s v
      → IsFit s.part.site.shape (done_limit s.part) (known_at s v)
  known_fit s v sound look = look_fit lawful allowed s v sound look

  -- a version that is held is what is known of its number
  pub held_known : (s : Facts U) (k : Known) → IsSound lawful allowed s → Contains s.part.hands.held k
      → IsHeldAt s k.version × (known_at s k.version ≡ k)
  held_known s k sound there = (
    there_found s.part.hands.held k there,
    known_is s k.version k
        (there_is s.part.hands.held k there (λ a b x y e. sound.sure.once a b (inl x) (inl y) e)),
  )

  module _ {scan : Bool} (s t : Facts U) (act : Act) (x : ℕ) (sound : IsSound lawful allowed s)
      (after : IsSound lawful allowed t)
      (took : Steps lawful allowed s scan act x t) where
    abbrev idle : Option Known
    idle = first_idle s.roots s.hand s.part.hands.held

    held_is : t.part.hands.held
        ≡ Rattle.hm_cells.proofs.Found.held_after s.roots s.hand s.part.hands.held took.found
        (publishes act x)
    held_is = ap (λ (f : Facts U). f.part.hands.held) took.is

    hand_is : t.hand ≡ s.hand ++ taken act x took.found
    hand_is = ap (λ (f : Facts U). f.hand) took.is

    -- what a root place or the hand names stays held, and is known as before
    pub kept_stays : (v : Version) → IsKept s v → IsHeldAt t v × (known_at t v ≡ known_at s v)
    kept_stays v kept =
        let m = among s.part.hands.held v (kept_held s v sound kept) in
        let e : find_version t.part.hands.held v ≡ Some m.0 =
        ap (λ (l : List Known). find_version l v) held_is
        ∙ named_stays s.roots s.hand s.part.hands.held took.found (publishes act x) v m.0
        (kept_named s v kept) m.1 in
        (ap Rattle.std.proofs.Common.is_some e, known_is t v m.0 e ∙ sym (known_is s v m.0 m.1))

    -- what was found is held and in hand
    pub found_held : (k : Known) → took.found ≡ Some k
        → IsHeldAt t k.version × (known_at t k.version ≡ k) × Contains t.hand k.version
    found_held k is =
        let there : Contains t.part.hands.held k =
        subst (λ (o : Option Known). IfSome o (Contains t.part.hands.held)) is took.holds in
        let h = held_known t k after there in
        let hand : Contains (s.hand ++ taken act x took.found) k.version =
        Contains-append_right s.hand (taken act x took.found) k.version
        (subst (λ (o : Option Known). Contains (taken act x o) k.version) (sym is)
        (zero, omega arith, refl)) in
        (h.0, h.1, subst (λ (l : List Version). Contains l k.version) (sym hand_is) hand)

    -- what was published is held and in hand
    pub new_held : (k : Known) → publishes act x ≡ Some k
        → IsHeldAt t k.version × (known_at t k.version ≡ k) × Contains t.hand k.version
    new_held k is =
        let there : Contains t.part.hands.held k =
        subst (λ (o : Option Known). IfSome o (Contains t.part.hands.held)) is took.holds_new in
        let h = held_known t k after there in
        let hand : Contains (s.hand ++ taken act x took.found) k.version =
        Contains-append_right s.hand (taken act x took.found) k.version (in_hand took.found) in
        (h.0, h.1, subst (λ (l : List Version). Contains l k.version) (sym hand_is) hand)
      where
        listed_in : (o : Option Known) → Contains (Rattle.std.proofs.Common.map (λ (m : Known). m.version)
            (listed o ++ (k ∷ []))) k.version
        listed_in None = (zero, omega arith, refl)
        listed_in (Some m) = (1, omega arith, refl)

        in_hand : (o : Option Known) → Contains (taken act x o) k.version
        in_hand o = subst (λ (n : Option Known). Contains (Rattle.std.proofs.Common.map (λ
            (m : Known). m.version) (listed o ++ listed n)) k.version)
            (sym is) (listed_in o)

    -- where few are held and few are in hand, few are held afterwards
    pub held_few : (n : ℕ) → length s.part.hands.held ≤ n → 257 + length s.hand ≤ n
        → length t.part.hands.held ≤ n
    held_few n few hand =
        let room : length s.roots + length s.hand + 1 ≤ n = omega (arith, sound.wide) in
        subst (λ (l : List Known). length l ≤ n) (sym held_is)
        (few_after s.roots s.hand s.part.hands.held took.found (publishes act x) sound.apart
        (not_both act x took.found took.what) n few room)

    -- a word may stay written: it names no version, or one that a root place or the hand names
    abbrev pub IsSafe : ℕ → ℕ → Type 0
    IsSafe j w = (is_naming j ≡ false) ⊎ ((w ≡ 0) ⊎ ((v : Version) × (w ≡ naming_word (Some v)) × IsKept s v))

    safe_test : (j w : ℕ) → IsSafe j w → IfSome idle (λ k. (is_naming j && (w == naming_word
        (Some k.version))) ≡ false)
    safe_test j w safe =
        each_some (λ k. (is_naming j && (w == naming_word (Some k.version))) ≡ false) idle (λ k e. ⊎_elim
        (λ (n : is_naming j ≡ false). grind (arith, common_steps))
        (λ (r : (w ≡ 0) ⊎ ((v : Version) × (w ≡ naming_word (Some v)) × IsKept s v)). ⊎_elim
        (λ (z : w ≡ 0). grind (arith, common_steps, nat_tests))
        (λ (c : (v : Version) × (w ≡ naming_word (Some v)) × IsKept s v).
        let ne = from_some (λ (m : Known). m.version.0 ≢ c.0.0) idle k e
        (idle_other s.roots s.hand s.part.hands.held c.0 (kept_named s c.0 c.2)) in
        grind (arith, common_steps, nat_tests)) r)
        safe)

    written_is : IsWork act
        → t.part.draft.written ≡ unnamed idle (written_with s.part.draft.written act (publishes act x))
    written_is work = ap (λ (f : Facts U). f.part.draft.written) took.is
        ∙ ap (λ (q : Part U). unnamed idle (written_with q.draft.written act (publishes act x)))
        (still_readied s.part act work x)

    -- such a word stays written, where the act publishes nothing and stores another word or none
    pub written_stays : IsWork act → (j w : ℕ) → publishes act x ≡ None
        → ((i word : ℕ) → act ≡ Builds (StoreOwn i word) → i ≢ j)
        → IsWritten s.part.draft.written j w → IsSafe j w → IsWritten t.part.draft.written j w
    written_stays work j w none other was safe =
        subst (λ (l : List (Option ℕ)). IsWritten l j w) (sym (written_is work))
        (unnamed_still idle (written_with s.part.draft.written act (publishes act x)) j w
        (subst (λ (o : Option Known). IsWritten (written_with s.part.draft.written act o) j w) (sym none)
        (before act other))
        (safe_test j w safe))
      where
        before : (a : Act) → ((i word : ℕ) → a ≡ Builds (StoreOwn i word) → i ≢ j)
            → IsWritten (written_with s.part.draft.written a None) j w
        before (Looks l) f = was
        before (Builds (StoreOwn i word)) f =
            get_or-set_other s.part.draft.written i j (Some word) None (λ e. f i word refl (sym e)) ∙ was
        before (Builds (Publish fresh)) f = was
        before (Builds (LinkStore at fresh entry)) f = was
        before (Builds (Shorten at i target)) f = was
        before (Ticks t) f = was
        before (Shifts h) f = was

    -- and so does one that the act stores
    pub written_here : (i word : ℕ) → act ≡ Builds (StoreOwn i word) → i < 16 → IsSafe i word
        → IsWritten t.part.draft.written i word
    written_here i word is low safe =
        let wide = sound.sure.wide in
        let here : IsWritten (written_with s.part.draft.written act (publishes act x)) i word =
        subst (λ (a : Act). IsWritten (written_with s.part.draft.written a (publishes a x)) i word) (sym is)
        (get_or-set_same s.part.draft.written i (Some word) None (omega arith)) in
        let work : IsWork act = subst IsWork (sym is) tt in
        subst (λ (l : List (Option ℕ)). IsWritten l i word) (sym (written_is work))
        (unnamed_still idle (written_with s.part.draft.written act (publishes act x)) i word here
        (safe_test i word safe))
