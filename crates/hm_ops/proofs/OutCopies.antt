-- What stands at a root place once its object was copied out.
use Rattle.std.proofs.Common.{◌≡◌, ◌+◌, ◌<◌, ◌≤◌, ◌++◌, true, false, List, [], ◌∷◌, length, get_or, Option, Some, None, unwrap_or, refl, sym, ap, ◌∙◌, subst, arith, inl, get_or-set_other, get_or-set_same}
use Rattle.hm_shape.specs.declared.version.Version.{Version}
use Rattle.hm_model.specs.declared.entry.Entry.{Entry}
use Rattle.hm_model.specs.declared.object.Name.{Name}
use Rattle.hm_model.specs.declared.root.Root.{Root}
use Rattle.hm_model.specs.Store.{PlainStore}
use Rattle.hm_model.specs.Sight.{name_at}
use Rattle.hm_moves.specs.declared.part.Known.{Known}
use Rattle.hm_moves.specs.Cycles.{has_masks}
use Rattle.hm_cells.specs.Facts.{Facts, IsHeldAt, Made, known_at, names_at, sight_of, without_first}
use Rattle.hm_cells.proofs.Stepped.{kept_held}
use Rattle.hm_ops.specs.declared.bringing.Copied.{Copied}
use Rattle.hm_ops.specs.declared.bringing.Copied.TheVariants.{Already, Moved, NoRoom}
use Rattle.hm_ops.specs.Resting.{IsAtPlace, Keeps, Works}
use Rattle.hm_ops.specs.Placing.{IsInHand, Settles, settled}
use Rattle.hm_ops.specs.Bringing.{Brings, CopiesBehind, CopiesOut, CopiesOutOf, IsBrought, own_after, taken_by}
use Rattle.hm_ops.proofs.Searching.{quiet_same, quiet_then}
use Rattle.hm_ops.proofs.Settled.{alone_in_hand, alone_left, place_below, placed_keeps, root_named, settled_same}

-- two versions at one place are one
one_there : (o : Option Version) (v w : Version) → o ≡ Some v → o ≡ Some w → v ≡ w
one_there o v w is is' = ap (λ (x : Option Version). unwrap_or x v) (sym is ∙ is')

module _ {U : Type 0} where
  -- what is said of the version found depends on nothing that settling changes
  brought_settled : (s t : Facts U) (r : Root) (v x w : Version) (c : Copied) → IsBrought s v t w c
      → IsBrought s v (settled t r x) w c
  brought_settled s t r v x w Already b = b
  brought_settled s t r v x w Moved b = b
  brought_settled s t r v x w NoRoom b = b

  own_settled : (t : Facts U) (r : Root) (x w : Version) (c : Copied) (own : List Known)
      → own_after t w c own ≡ own_after (settled t r x) w c own
  own_settled t r x w Already own = refl
  own_settled t r x w Moved own = refl
  own_settled t r x w NoRoom own = refl

  -- what is so of the one version at a place is so of each
  out_of : (s t : Facts U) (r : Root) (c : Copied) (v w : Version) → IsAtPlace s r.0 v → CopiesOut s r v c w t
      → CopiesOutOf s r c t
  out_of s t r c v w at out x there =
      (w, subst (λ (y : Version). CopiesOut s r y c w t) (one_there (get_or s.roots r.0 None) v x at there) out)

-- a copy takes one version at most
one_taken : (c : Copied) → taken_by c ≤ 1
one_taken Already = omega arith
one_taken Moved = omega arith
one_taken NoRoom = omega arith

module _ {U : Type 0} where
  -- a fetch that copies nothing takes nothing
  pub behind_same : (s : Facts U) → CopiesBehind s s
  behind_same s = record { taken = 0; one = omega arith; none = λ none. refl; quiet = quiet_same s s refl }

  -- one that copies has all masks
  pub behind_out : (s t : Facts U) (r : Root) (v : Version) (c : Copied) → has_masks s.part ≡ true
      → IsAtPlace s r.0 v → CopiesOutOf s r c t → CopiesBehind s t
  behind_out s t r v c masks at out = record {
    taken = taken_by c;
    one = one_taken c;
    none = λ none. absurd (cc);
    quiet = (out v at).1.quiet;
  }

module _ {U : Type 0} (lawful : U → PlainStore → Type 0) (allowed : U → PlainStore → Entry → Type 0)
    (m : Made U) where
  module _ (s t : Facts U) (r : Root) (v : Version) (c : Copied) (k : Keeps lawful allowed s m)
      (at : IsAtPlace s r.0 v) where
    -- no later version was found
    pub out_at_first : Brings s v false record { copied = c; later = None } t → CopiesOutOf s r c t
    out_at_first b = out_of s t r c v v at record {
      quiet = b.quiet;
      cycle = b.cycle;
      place = ap (λ (l : List (Option Version)). get_or l r.0 None) b.roots ∙ at;
      others = λ j other x there. ap (λ (l : List (Option Version)). get_or l j.0 None) b.roots ∙ there;
      same = ap (λ (n : Known). n.name) (b.known v (inl (r.0, at))).1;
      brought = b.brought;
      own = b.own;
    }

    -- a later one was found, and is settled there
    module _ (w : Version) (b : Brings s v false record { copied = c; later = Some w } t)
        (works : Works lawful allowed t m) where
      alone : t.hand ≡ w ∷ []
      alone = b.hand ∙ ap (λ (l : List Version). l ++ w ∷ []) k.resting.rest.hand

      pub later_in_hand : IsInHand t w
      later_in_hand = alone_in_hand lawful allowed m t w works.sound alone

      named : name_at (names_at t) r.0 ≡ Some (known_at t w).name
      named =
          let held : IsHeldAt s v = kept_held lawful allowed s v k.sound (inl (r.0, at)) in
          ap (λ (l : List (Option Name)). name_at l r.0) b.quiet.names
          ∙ (root_named s r.0 v at held ∙ ap (λ (n : Name). Some n) (sym b.follows.name))

      pub out_at_later : (u : Facts U) → Settles t r w u → CopiesOutOf s r c u
      out_at_later u settles = subst (CopiesOutOf s r c) (sym settles.pass)
          (out_of s (settled t r w) r c v w at record {
            quiet = quiet_then s t (settled t r w) (taken_by c) 0 (taken_by c) (without_first w t.hand) b.quiet
                (quiet_same t (settled t r w)
                (settled_same lawful allowed m t r w (known_at t w) record { works = works; known = refl; hand = alone }
                named))
                (omega arith);
            cycle = b.cycle;
            place = get_or-set_same t.roots r.0 (Some w) None
                (subst (λ (l : List (Option Version)). r.0 < length l) (sym b.roots) (place_below s.roots r.0 v at));
            others = λ j other x there.
                get_or-set_other t.roots r.0 j.0 (Some w) None other
                ∙ (ap (λ (l : List (Option Version)). get_or l j.0 None) b.roots ∙ there);
            same = b.follows.name;
            brought = brought_settled s t r v w w c b.brought;
            own = b.own ∙ own_settled t r w w c s.part.hands.own;
          })

      pub rests_at_later : (u : Facts U) → Settles t r w u → Keeps lawful allowed u m
      rests_at_later u settles = subst (λ (f : Facts U). Keeps lawful allowed f m) (sym settles.pass)
          (placed_keeps lawful allowed m t r (Some w) (without_first w t.hand) works
          (alone_left w t.hand alone) later_in_hand.0)
