-- When a pass may hang its next version as a copy on one of from-space.
use Rattle.std.proofs.Common.{◌≡◌, ℕ, true, false, Some, None, refl, sym, ap, ◌∙◌, subst}
use Rattle.hm_moves.specs.Cycles.{known_from}
use Rattle.hm_cells.proofs.Words.{Seat, Version, word_at, naming_word, Entry, PlainStore, Builds, HasHand, HasRoom, next_version, Knowledge, Gripped, Facts, IsLookable, known_at, IsWholeCopy, copied, move_in, Exchanges, IsReady, IsSeated, Own, facts_of}
use Rattle.hm_cells.proofs.Linking.{exchange_ready, hangs}
use Rattle.hm_cells.proofs.Loading.{look}
use Rattle.hm_cells.proofs.Ready.{known_look}

module _ {U : Type 0} (lawful : U → PlainStore → Type 0)
    (allowed : U → PlainStore → Entry → Type 0)
    (seat : Seat (Unit {0}) (Knowledge U)) (grip : Gripped U) (own : Own)
    (seated : IsSeated lawful allowed seat (facts_of seat grip) own) (o : Facts U)
    (is : facts_of seat grip ≡ o) (next : Version) (at : next ≡ next_version o.part) (v : Version)
    (looked : IsLookable o v) where
  abbrev s : Facts U
  s = facts_of seat grip

  here : IsLookable s v
  here = look lawful allowed seat grip own seated o is v looked

  -- what is known of the version is of from-space, as its number is
  from_here : known_from o.part v ≡ true → known_from s.part (known_at s v).version ≡ true
  from_here known = ap (known_from s.part) (known_look s v here).1
      ∙ subst (λ (f : Facts U). known_from f.part v ≡ true) (sym is) known

  -- the exchange may be made
  pub link_copy_ready : (word to : ℕ) → word ≡ word_at own.shape v 0
      → to ≡ naming_word (Some next) → known_from o.part v ≡ true → HasRoom o.part → HasHand o.part
      → IsWholeCopy o.part (known_at o v).contents
      → IsReady lawful allowed seat.me.0
      (move_in s false (Builds (hangs lawful allowed seat grip own seated o is next at v looked
      (λ f. copied f (known_at f v)) (λ f. None) refl s))) 0
      (Exchanges (move_in s false (Builds (hangs lawful allowed seat grip own seated o is next at v
      looked (λ f. copied f (known_at f v)) (λ f. None) refl s))) word 0 to)
  link_copy_ready word to e name known room hand whole =
      let whole' : IsWholeCopy s.part (known_at s v).contents =
      subst (λ (f : Facts U). IsWholeCopy f.part (known_at f v).contents) (sym is) whole in
      exchange_ready lawful allowed seat grip own seated o is next at v looked
      (λ f. copied f (known_at f v)) (λ f. None) refl word to e name
      record {
        look = (known_look s v here).0;
        later = record {
          room = subst (λ (f : Facts U). HasRoom f.part) (sym is) room;
          version = refl;
          name = refl;
          rank = refl;
          link = whole'.link;
          built = whole'.built;
        };
        copies = from_here known;
        turns = refl;
        may = tt;
      }
      hand
