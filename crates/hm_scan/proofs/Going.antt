-- What a scan knows of its pass: how many versions are its caller's own, and what of its holding is clear.
use Rattle.std.proofs.Common.{◌≡◌, ◌≢◌, ◌<◌, ◌≤◌, ◌+◌, ◌-◌, ◌*◌, ◌/◌, ◌%◌, ◌^◌, ◌&&◌, ◌||◌, not, ℕ, zero, suc, Bool, true, false, List, [], ◌∷◌, ◌++◌, ◌⊎◌, length, get_or, Option, Some, None, IfSome, Contains, refl, sym, ap, ◌∙◌, subst, arith, inl, inr, ⊎_elim, Fits, w32, eq-eqb, eqb-true, filter, is_some, slice_index_or, unwrap_or}
use Rattle.hm_model.specs.declared.entry.Entry.{Entry}
use Rattle.hm_model.specs.Store.{PlainStore}
use Rattle.hm_shape.specs.declared.shape.Shape.{Shape}
use Rattle.std.specs.Prelude.{◌==◌, OnErr, OnOk, Result, Ok, Err}
use Rattle.std.specs.List.{list_all, list_any}
use Rattle.std.specs.Option.{option_map}
use Rattle.std.proofs.lemmas.Grind.{common_steps}
use Rattle.hm_shape.specs.declared.version.Version.{Version}
use Rattle.hm_shape.specs.Versions.{owner_of, region_of}
use Rattle.hm_moves.specs.declared.part.Known.{Known}
use Rattle.hm_moves.specs.After.{without}
use Rattle.hm_moves.specs.Cycles.{gives_from, holds_from, is_before, is_first, is_scanning, is_version, known_from}
use Rattle.hm_moves.proofs.Held.{contains_behind, contains_first}
use Rattle.hm_cells.specs.Facts.{Facts, IsSound, first_idle, is_kept}
use Rattle.hm_cells.proofs.Found.{find_none, find_passes, same_version}
use Rattle.hm_scan.specs.Scanning.{AreClear, IsUnderWay, Scans, ScansOn}
use Rattle.hm_cells.specs.Owns.{old_count}

old_most : (s : Shape) (o : Option ℕ) → old_count s o ≤ 65536
old_most s None = omega arith
old_most s (Some first) = s.versions_fit.1

module _ {U : Type 0} (lawful : U → PlainStore → Type 0) (allowed : U → PlainStore → Entry → Type 0) where
  -- a caller has few versions of its own
  pub own_few : (s : Facts U) → IsSound lawful allowed s → length s.part.hands.own ≤ 131072
  own_few s sound =
      let count = sound.listed.count in
      let old = old_most s.part.site.shape sound.old in
      let used = sound.sure.room in
      let most = s.part.site.shape.versions_fit.1 in
      omega (arith, count, old, used, most)

  -- so its cursor says which
  pub cursor_fits : (s : Facts U) → IsSound lawful allowed s → (n : ℕ) → n ≡ s.part.cycle.scan.cursor
      → Fits w32 (n / 5)
  cursor_fits s sound n is =
      let few = own_few s sound in
      let short = sound.sure.short in
      let small : n / 5 ≤ 131072 = omega (arith, few, short, is) in
      omega (arith, small)

-- what holds after a call that went well, and what after one that did not
pub ok_then : {A E P Q : Type 0} (r : Result A E) → (P → Q) → OnOk r P → OnOk r Q
ok_then (Ok a) f p = f p
ok_then (Err e) f p = tt

pub err_then : {A E P Q : Type 0} (r : Result A E) → (P → Q) → OnErr r P → OnErr r Q
err_then (Ok a) f p = tt
err_then (Err e) f p = f p

-- a list of which no element passes
any_never : {X : Type 0} (f : X → Bool) (l : List X) → ((x : X) → Contains l x → f x ≡ false)
    → list_any f l ≡ false
any_never f [] h = refl
any_never f (x ∷ xs) h =
    rw (h x (zero, omega arith, refl)) (any_never f xs (λ y c. h y (contains_behind y x xs c)))

-- a test that an element fails shortens a list
shorter : {X : Type 0} (f : X → Bool) (l : List X) → length (filter f l) ≤ length l
shorter f [] = omega arith
shorter f (x ∷ xs) = grind (arith, common_steps, shorter f xs)

fewer_by_one : {X : Type 0} (f : X → Bool) (l : List X) (a : X) → Contains l a → f a ≡ false
    → length (filter f l) + 1 ≤ length l
fewer_by_one f [] a c no_pass = absurd (let low = c.1 in omega arith)
fewer_by_one f (x ∷ xs) a c no_pass =
    grind (arith, common_steps, contains_first a x xs c, shorter f xs, fewer_by_one f xs a)

-- one that is let go leaves fewer
let_one : (l : List Known) (k : Known) → Contains l k → length (without l (Some k)) + 1 ≤ length l
let_one l k c = fewer_by_one (λ (m : Known). not (is_version k m)) l k c
    (ap not (eq-eqb k.version.0 k.version.0 refl))

-- after so many of 400 steps as few held versions are left, or each is kept
abbrev pub AreFewer : List (Option Version) → List Version → List Known → ℕ → Type 0
AreFewer roots hand held n = (first_idle roots hand held ≡ None) ⊎ (length held + n ≤ 400)

pub fewer_go : (roots : List (Option Version)) (hand : List Version) (held : List Known) (n : ℕ)
    → AreFewer roots hand held n
    → AreFewer roots hand (without held (first_idle roots hand held)) (n + 1)
fewer_go roots hand held n was = go (first_idle roots hand held) refl
  where
    go : (o : Option Known) → first_idle roots hand held ≡ o
        → AreFewer roots hand (without held o) (n + 1)
    go None e = inl e
    go (Some k) e = ⊎_elim
        (λ (none : first_idle roots hand held ≡ None). absurd (cc))
        (λ (few : length held + n ≤ 400).
        let less = let_one held k (find_passes (λ (m : Known). not (is_kept roots hand m)) held k e).0 in
        inr (omega (arith, few, less)))
        was

-- a version that root places keep is at one of them
record IsPlaced (roots : List (Option Version)) (v : Version) : Type 0 where
  place : ℕ
  at : get_or roots place None ≡ Some v

placed_behind : (r : Option Version) (rs : List (Option Version)) (v : Version) → IsPlaced rs v
    → IsPlaced (r ∷ rs) v
placed_behind r rs v p = record { place = suc p.place; at = p.at }

kept_placed : (k : Known) (roots : List (Option Version))
    → list_any (λ r. unwrap_or (option_map (λ v. k.version.0 == v.0) r) false) roots ≡ true
    → IsPlaced roots k.version
kept_placed k [] h = cc
kept_placed k (None ∷ rs) h = placed_behind None rs k.version (kept_placed k rs h)
kept_placed k (Some v ∷ rs) h = go (kept_placed k rs) (k.version.0 == v.0) refl h
  where
    rest : Bool
    rest = list_any (λ r. unwrap_or (option_map (λ w. k.version.0 == w.0) r) false) rs

    go : (rest ≡ true → IsPlaced rs k.version) → (b : Bool) → (k.version.0 == v.0) ≡ b
        → (b || rest) ≡ true → IsPlaced (Some v ∷ rs) k.version
    go f true e h' = record {
      place = 0;
      at = ap Some (same_version v k.version (sym (eqb-true k.version.0 v.0 e)));
    }
    go f false e h' = placed_behind (Some v) rs k.version (f h')

module _ {U : Type 0} where
  -- nothing of from-space is held, where each held version is at a root place, and these are clear
  pub held_clear : (s : Facts U) → s.hand ≡ [] → AreClear s → AreFewer s.roots s.hand s.part.hands.held 400
      → holds_from s.part ≡ false
  held_clear s empty clear fewer =
      any_never (λ (k : Known). known_from s.part k.version) s.part.hands.held one
    where
      one : (k : Known) → Contains s.part.hands.held k → known_from s.part k.version ≡ false
      one k c = ⊎_elim
          (λ (none : first_idle s.roots s.hand s.part.hands.held ≡ None).
          let kept : not (is_kept s.roots s.hand k) ≡ false =
          find_none (λ (m : Known). not (is_kept s.roots s.hand m)) s.part.hands.held k none c in
          let there : is_kept s.roots [] k ≡ true =
          subst (λ (h : List Version). is_kept s.roots h k ≡ true) empty (is_true _ kept) in
          let p = kept_placed k s.roots (or_left _ there) in
          clear p.place k.version p.at)
          (λ (few : length s.part.hands.held + 400 ≤ 400).
          absurd (let low = c.1 in omega (arith, few, low)))
          fewer
        where
          is_true : (b : Bool) → not b ≡ false → b ≡ true
          is_true true h = refl
          is_true false h = cc

          or_left : (b : Bool) → (b || false) ≡ true → b ≡ true
          or_left true h = refl
          or_left false h = cc

  module _ (s t : Facts U) (a : Scans s t) where
    -- a scan that goes on is the same scan
    pub scanning_kept : is_scanning t.part ≡ is_scanning s.part
    scanning_kept = λ i. is_first (a.stage i).phase && is_before (a.reply i) (a.stage i).number

    -- one after another
    pub scans_then : (u : Facts U) → Scans t u → Scans s u
    scans_then u b = record {
      caller = record {
        heap = b.caller.heap ∙ a.caller.heap;
        usage = b.caller.usage ∙ a.caller.usage;
        start = b.caller.start ∙ a.caller.start;
        number = b.caller.number ∙ a.caller.number;
        span = b.caller.span ∙ a.caller.span;
      };
      seen = b.seen ∙ a.seen;
      mine = b.mine ∙ a.mine;
      names = b.names ∙ a.names;
      tends = b.tends ∙ a.tends;
      site = b.site ∙ a.site;
      number = b.number ∙ a.number;
      stage = b.stage ∙ a.stage;
      reply = b.reply ∙ a.reply;
      moves = b.moves ∙ a.moves;
      joined = b.joined ∙ a.joined;
      join = b.join ∙ a.join;
      done = b.done ∙ a.done;
      fewer = let x = a.fewer in let y = b.fewer in omega (arith, x, y);
      takes = b.takes ∙ a.takes;
    }

  pub scans_none : (s : Facts U) → Scans s s
  scans_none s = record {
    caller = record { heap = refl; usage = refl; start = refl; number = refl; span = refl };
    seen = refl;
    mine = refl;
    names = refl;
    tends = refl;
    site = refl;
    number = refl;
    stage = refl;
    reply = refl;
    moves = refl;
    joined = refl;
    join = refl;
    done = refl;
    fewer = omega arith;
    takes = refl;
  }

  pub on_none : (s : Facts U) → ScansOn s s
  on_none s = record { scans = scans_none s; masks = refl; mark = refl }

  module _ (s t : Facts U) (a : ScansOn s t) where
    pub on_then : (u : Facts U) → ScansOn t u → ScansOn s u
    on_then u b = record {
      scans = scans_then s t a.scans u b.scans;
      masks = b.masks ∙ a.masks;
      mark = b.mark ∙ a.mark;
    }

    -- the same is known as from-space
    pub from_kept : (v : Version) → known_from t.part v ≡ known_from s.part v
    from_kept v = λ i. gives_from (slice_index_or (a.masks i) (owner_of (a.scans.site i).shape v) None)
        (region_of (a.scans.site i).shape v)

    -- and a scan that is under way still is
    pub way_on : IsUnderWay s → IsUnderWay t
    way_on w = record {
      scanning = scanning_kept s t a.scans ∙ w.scanning;
      masks = ap (list_all is_some) a.masks ∙ w.masks;
      unmarked = a.mark ∙ w.unmarked;
    }

  -- what lies at the same places is as clear
  pub clear_on : (s t : Facts U) → ScansOn s t → t.roots ≡ s.roots → AreClear s → AreClear t
  clear_on s t a same clear r v at =
      from_kept s t a v
      ∙ clear r v (ap (λ (l : List (Option Version)). get_or l r None) (sym same) ∙ at)
