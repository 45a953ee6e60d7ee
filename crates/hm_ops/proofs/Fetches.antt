-- A walk to the last version, and a whole fetch from its walk and its loads.
use Rattle.std.proofs.Common.{◌≡◌, ℕ, Bool, List, Option, Some, None, get_or, map, is_some, sym, ap, ◌∙◌, subst, arith}
use Rattle.hm_shape.specs.declared.version.Version.{Version}
use Rattle.hm_model.specs.declared.object.Name.{Name}
use Rattle.hm_model.specs.declared.root.Root.{Root}
use Rattle.hm_model.specs.declared.entry.Entry.{Entry}
use Rattle.hm_model.specs.Store.{Numbers, PlainStore}
use Rattle.hm_model.specs.Sight.{IsUntended, Rests, SetsHand, Sight, name_at}
use Rattle.hm_model.specs.declared.entry.Entry.TheVariants.{Fetch}
use Rattle.hm_model.specs.Calls.{Fetches, FetchesAll}
use Rattle.hm_model.proofs.CallFacts.{fetches_enters, fetches_rests}
use Rattle.hm_moves.specs.declared.part.Known.{Known}
use Rattle.hm_cells.specs.Facts.{Facts, Made, known_at, sight_of}
use Rattle.hm_ops.specs.Walking.{HasCome, IsLast, Reads, Walks, contents_at}
use Rattle.hm_ops.proofs.LinkSteps.{come_named}

module _ {U : Type 0} (lawful : U → PlainStore → Type 0) (allowed : U → PlainStore → Entry → Type 0)
    (m : Made U) where
  -- a walk ends at the last version, where the object is fetched
  pub walk_ends : (s p t : Facts U) (r : Root) (v : Version) → HasCome lawful allowed m s r v p
      → IsLast lawful allowed m p v
      (Some (Fetch p.part.number (known_at p v).name (known_at p v).contents)) t
      → Walks lawful allowed m s r v t
  walk_ends s p t r v come last =
      let room = last.room in
      record {
        fetch = subst (λ (c : Sight U). Fetches lawful allowed c (sight_of t) r (known_at t v).contents) come.same
            (subst (λ (n : Known). Fetches lawful allowed (sight_of p) (sight_of t) r n.contents)
            (sym last.known)
            (fetches_enters lawful allowed (sight_of p) (sight_of t) r (known_at p v).contents
            (known_at p v).name (come_named lawful allowed m s p r v come) last.tells
            record { falls = omega arith; by_one = omega arith; kept = λ _. room }));
        untended = subst (λ (c : Sight U). IsUntended c (sight_of t)) come.same last.untended;
        names = last.names ∙ ap (λ (c : Sight U). c.roots) come.same;
        room = room ∙ ap (λ (c : Sight U). c.room) come.same;
        place = ap (λ (l : List (Option Version)). get_or l r.0 None) last.roots ∙ come.place;
        keeps = last.keeps;
      }

  module _ (s s1 s2 s3 s4 : Facts U) (from hand : Root) (v : Version)
      (walks : Walks lawful allowed m s from v s1) (first : Reads lawful allowed m s1 v s2)
      (second : Reads lawful allowed m s2 v s3)
      (sets : SetsHand (sight_of s3) (sight_of s4) hand.0 (contents_at s3 v).refs)
      (rests : Rests (sight_of s3) (sight_of s4)) where
    same : sight_of s3 ≡ sight_of s1
    same = second.same ∙ first.same

    known : known_at s3 v ≡ known_at s1 v
    known = second.known ∙ first.known

    names : (sight_of s3).roots ≡ (sight_of s).roots
    names = ap (λ (c : Sight U). c.roots) same ∙ walks.names

    -- the answer is what the last version holds, and the hand names its references
    pub fetches_all : (stamp : ℕ) (numbers : Numbers) (set : List Bool) → stamp ≡ (contents_at s1 v).stamp
        → numbers ≡ (contents_at s2 v).numbers → set ≡ map is_some (contents_at s3 v).refs
        → FetchesAll lawful allowed (sight_of s) (sight_of s4) from hand
        record { stamp = stamp; numbers = numbers; set = set }
    fetches_all stamp numbers set stamp_is numbers_are set_is = record {
      answer = contents_at s1 v;
      fetch = fetches_rests lawful allowed (sight_of s) (sight_of s1) (sight_of s4) from (contents_at s1 v)
          walks.fetch (subst (λ (c : Sight U). Rests c (sight_of s4)) same rests);
      value = λ i. record {
        stamp = stamp_is i;
        numbers = (numbers_are ∙ ap (λ (k : Known). k.contents.numbers) first.known) i;
        set = (set_is ∙ ap (λ (k : Known). map is_some k.contents.refs) known) i;
      };
      roots = record {
        here = λ i low. sets.here i low ∙ ap (λ (k : Known). name_at k.contents.refs i) known;
        below = λ k low. sets.below k low ∙ ap (λ (l : List (Option Name)). name_at l k) names;
        above = λ k high. sets.above k high ∙ ap (λ (l : List (Option Name)). name_at l k) names;
      };
    }
