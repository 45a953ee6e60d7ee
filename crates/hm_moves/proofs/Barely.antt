-- A caller that is clean, or stays bare, is so in the state that is shown.
use Rattle.std.proofs.Common.{◌≡◌, ◌≢◌, ◌<◌, ◌≤◌, ◌==◌, ℕ, zero, suc, Bool, true, false, List, [], ◌∷◌, length, None, is_some, slice_index, slice_index_or, refl, sym, ap, ◌∙◌, arith, ⊎_elim, eqb-true}
use Rattle.std.proofs.lemmas.Bool.{and_parts, cases_Bool, cases_lt, both_ways}
use Rattle.std.specs.List.{list_all}
use Rattle.hm_shape.specs.declared.shape.Shape.{Shape}
use Rattle.hm_shape.specs.Versions.{version_count}
use Rattle.hm_shape.specs.Words.{word_at}
use Rattle.hm_moves.specs.declared.part.Part.{Part}
use Rattle.hm_moves.specs.After.{is_naming}
use Rattle.hm_moves.specs.Allowed.{HoldsClean}
use Rattle.hm_moves.specs.Cycles.{field_count, field_word, has_masks, holds_from, known_from}
use Rattle.hm_moves.specs.Good.{AreIndexed}
use Rattle.hm_moves.specs.Places.{Heap, ArePlaced}
use Rattle.hm_moves.specs.Showing.{ShowsHeap, ShowsPart, version_shown}
use Rattle.hm_moves.proofs.Live.{any_contains, any_found, from_shown, held_known, mine_live, mine_own}
use Rattle.hm_rounds.specs.State.{State}
use Rattle.hm_rounds.specs.Views as views
use Rattle.hm_rounds.specs.Rule as rounds

-- link and references name versions
field_naming : (f : ℕ) → f < 5 → is_naming (field_word f) ≡ true
field_naming zero low = refl
field_naming (suc zero) low = refl
field_naming (suc (suc zero)) low = refl
field_naming (suc (suc (suc zero))) low = refl
field_naming (suc (suc (suc (suc zero)))) low = refl
field_naming (suc (suc (suc (suc (suc f))))) low = absurd (omega arith)

-- each of a list passes a test that all pass
pub all_at : {A : Type 0} (f : A → Bool) (l : List A) (i : ℕ) (d : A) → i < length l → list_all f l
    ≡ true
    → f (slice_index_or l i d) ≡ true
all_at f [] i d low all = absurd (omega arith)
all_at f (a ∷ l) zero d low all = (and_parts (f a) (list_all f l) all).0
all_at f (a ∷ l) (suc i) d low all = all_at f l i d (omega arith)
    (and_parts (f a) (list_all f l) all).1

-- a caller that has all masks has them in the state
pub masks_shown : {U : Type 0} (s : Shape) (h : Heap) (moves : ℕ → ℕ) (x : State)
    (shows : ShowsHeap s h moves x)
    (p : Part U) → ShowsPart s moves x p → has_masks p ≡ true → views.AllMasks x.shape x.masks
    p.number
masks_shown s h moves x shows p mine all q low =
    let below : q < p.site.shape.callers =
    let a = ap (λ z. z.callers) shows.shape in let b = ap (λ (z : Shape). z.callers) mine.shape in
    omega arith in
    mine.scan.loaded q below
    ∙ all_at is_some p.cycle.scan.masks q None (let a = mine.scan.wide in omega arith) all

module _ {U : Type 0} (s : Shape) (h : Heap) (moves : ℕ → ℕ) (x : State)
    (shows : ShowsHeap s h moves x)
    (rule : rounds.Good x) (placed : ArePlaced s h.index h.places.dead h.places.used) (p : Part U)
    (mine : ShowsPart s moves x p) (hands : AreIndexed s p.number h.index h.places p.hands)
    (low : p.number < s.callers) where
  -- a caller that holds nothing of from-space holds nothing in the state that it knows as that
  pub held_clean : holds_from p ≡ false → (v : ℕ) → x.hands.held p.number v ≡ true
      → views.known_from x.shape x.masks p.number v ≡ false
  held_clean clean zero there =
      let r = any_found (λ k. version_shown k.version == 0) p.hands.held
      (sym (mine.hands.held 0) ∙ there)
      in
      absurd (let e = eqb-true (version_shown r.0.version) 0 r.2 in omega arith)
  held_clean clean (suc v) there =
      let r = held_known s h moves x shows rule placed p mine hands low v there in
      let small : r.0.version.0 < version_count s = placed.fits r.0 (hands.held r.0 r.1) in
      ap (λ n. views.known_from x.shape x.masks p.number (suc n)) (sym r.2)
      ∙ (from_shown s h moves x shows p mine r.0.version small
      ∙ ⊎_elim
      (λ (t : known_from p r.0.version ≡ true). absurd (both_ways (holds_from p) clean
      (any_contains (λ k. known_from p k.version) p.hands.held r.0 r.1 t)))
      (λ (t : known_from p r.0.version ≡ false). t)
      (cases_Bool (known_from p r.0.version)))

  -- what a version of the caller's own names is below all versions
  named_low : (v f u : ℕ) → views.Mine x p.number (suc v) → f < x.shape.fields
      → x.versions.word (suc v) f ≡ suc u
      → u < version_count s
  named_low v f u own narrow is =
      let live : views.Live x (x.versions.word (suc v) f) = rule.safe.named (suc v) f
      (mine_live s h moves x shows rule placed p.number v own) narrow (λ e. omega arith) in
      ⊎_elim
      (λ (t : u < version_count s). t)
      (λ (t : version_count s ≤ u). absurd (both_ways (x.uses.used (suc u)) (shows.beyond u t)
      (ap x.uses.used (sym is) ∙ live.is_used)))
      (cases_lt u (version_count s))

  named_clean : HoldsClean h.words p → (v f u : ℕ) → views.Mine x p.number (suc v)
      → f < x.shape.fields
      → x.versions.word (suc v) f ≡ suc u → views.known_from x.shape x.masks p.number (suc u)
      ≡ false
  named_clean clean v f u own narrow is =
      let r = mine_own s h moves x shows rule placed p mine hands low v own in
      let few : f < field_count = let a = ap (λ z. z.fields) shows.shape in omega arith in
      let word : slice_index h.words (word_at p.site.shape r.0.version (field_word f)) ≡ suc u =
      ap (λ (z : Shape). slice_index h.words (word_at z r.0.version (field_word f))) mine.shape
      ∙ (sym (shows.words r.0.version f (placed.fits r.0 (hands.own r.0 r.1).published) few)
      ∙ (ap (λ n. x.versions.word (suc n) f) r.2 ∙ is)) in
      from_shown s h moves x shows p mine record { 0 = u } (named_low v f u own narrow is)
      ∙ clean.named r.0 (field_word f) u r.1 (field_naming f few) word

  -- a clean holding is bare in the state
  pub clean_bare : HoldsClean h.words p → views.Bare x p.number
  clean_bare clean = record {
    held = held_clean clean.held;
    named = λ v f own narrow some. named_at v f (x.versions.word v f) own narrow some refl;
  }
    where
      named_at : (v f w : ℕ) → views.Mine x p.number v → f < x.shape.fields → x.versions.word v f
          ≢ 0
          → x.versions.word v f ≡ w
          → views.known_from x.shape x.masks p.number (x.versions.word v f) ≡ false
      named_at zero f w own narrow some is =
          absurd (both_ways (x.uses.used 0) shows.none own.is_used)
      named_at (suc v) f zero own narrow some is = absurd (some is)
      named_at (suc v) f (suc u) own narrow some is =
          ap (views.known_from x.shape x.masks p.number) is ∙ named_clean clean v f u own narrow is
