-- Conditional stores, from their steps.
use Rattle.std.proofs.Common.{◌≡◌, ◌+◌, ℕ, get_or, Some, None, sym, ap, ◌∙◌, subst, arith, inl}
use Rattle.hm_shape.specs.declared.version.Version.{Version}
use Rattle.hm_model.specs.declared.entry.Tried.TheVariants.{Stored, Changed}
use Rattle.hm_model.specs.declared.entry.Entry.{Entry}
use Rattle.hm_model.specs.declared.entry.Entry.TheVariants.{StoreIf}
use Rattle.hm_model.specs.declared.root.Root.{Root}
use Rattle.hm_model.specs.Store.{Numbers, PlainStore}
use Rattle.hm_model.specs.Sight.{Sight, Places, MayEnter, names_of, root_of}
use Rattle.hm_model.specs.Effect.{with_all}
use Rattle.hm_model.specs.Calls.{FindsChanged, MayStoreIf, StoresAll}
use Rattle.hm_model.proofs.CallFacts.{finds_changed_enters, stores_all_enters}
use Rattle.hm_moves.specs.declared.part.Known.{Known}
use Rattle.hm_cells.specs.Facts.{Facts, Made, known_at, room_of, sight_of}
use Rattle.hm_cells.specs.Calls.{IsWholeCopy}
use Rattle.hm_ops.specs.Resting.{IsRooted}
use Rattle.hm_ops.specs.Walking.{GoesOn, HasCome, Reads, contents_at}
use Rattle.hm_ops.specs.Writing.{Roots}
use Rattle.hm_ops.specs.Storing.{Copies, Ends, tried_at}
use Rattle.hm_ops.proofs.LinkSteps.{come_named}
use Rattle.hm_ops.proofs.Onward.{ends_from, goes_from}

module _ {U : Type 0} (lawful : U → PlainStore → Type 0) (allowed : U → PlainStore → Entry → Type 0)
    (m : Made U) where
  -- a version was read and its copy written
  module _ (s p t : Facts U) (v : Version) (stamp : ℕ) (refs : Places) (numbers : Numbers)
      (reads : Reads lawful allowed m s v p)
      (copies : Copies p record { stamp = stamp + 1; refs = names_of (sight_of p) refs; numbers = numbers } t)
      (rooted : IsRooted s v) where
    known_still : known_at t v ≡ known_at s v
    known_still =
        copies.known v (inl (rooted.0, ap (λ (l : Roots). get_or l rooted.0 None) reads.roots ∙ rooted.1))
        ∙ reads.known

    -- the copy is whole, as a conditional store with the stamp that was read wants it
    pub copy_whole : stamp ≡ (contents_at s v).stamp
        → IsWholeCopy t.part (with_all (names_of (sight_of t) refs) numbers (known_at t v).contents)
    copy_whole equal =
        let e : stamp ≡ (known_at t v).contents.stamp =
        equal ∙ ap (λ (k : Known). k.contents.stamp) (sym known_still) in
        let same : sight_of p ≡ sight_of t = sym copies.same in
        subst (IsWholeCopy t.part)
        (λ i. record { stamp = e i + 1; refs = names_of (same i) refs; numbers = numbers }) copies.whole

    -- a conditional store that was allowed before is allowed still
    pub copy_may : MayEnter lawful allowed (sight_of s) (tried_at s v stamp refs numbers Stored)
        → MayEnter lawful allowed (sight_of t) (tried_at t v stamp refs numbers Stored)
    copy_may may =
        let same : sight_of s ≡ sight_of t = sym (copies.same ∙ reads.same) in
        subst (λ (k : Known). MayEnter lawful allowed (sight_of t)
        (StoreIf t.part.number k.name stamp (names_of (sight_of t) refs) numbers Stored)) (sym known_still)
        (subst (λ (c : Sight U). MayEnter lawful allowed c
        (StoreIf c.number (known_at s v).name stamp (names_of c refs) numbers Stored)) same may)

    -- another version was there
    pub copy_goes : (u : Facts U) (at : Root) (next : Version) → GoesOn lawful allowed m t at v next u
        → GoesOn lawful allowed m s at v next u
    copy_goes u at next goes =
        goes_from lawful allowed m s t u (copies.same ∙ reads.same) at v known_still next goes

    -- it was hung there
    pub copy_ends : (u : Facts U) → Ends lawful allowed m t (tried_at t v stamp refs numbers Stored) 1 u
        → Ends lawful allowed m s (tried_at s v stamp refs numbers Stored) 1 u
    copy_ends u ends =
        let same : sight_of t ≡ sight_of s = copies.same ∙ reads.same in
        ends_from lawful allowed m s t u same (tried_at s v stamp refs numbers Stored)
        (tried_at t v stamp refs numbers Stored) 1
        (λ i. StoreIf (same i).number (known_still i).name stamp (names_of (same i) refs) numbers Stored) ends

  -- a pass has walked to a version
  module _ (s p : Facts U) (at : Root) (v : Version) (stamp : ℕ) (refs : Places) (numbers : Numbers)
      (come : HasCome lawful allowed m s at v p) where
    same : sight_of p ≡ sight_of s
    same = come.same

    named : root_of (sight_of p) at ≡ Some (known_at p v).name
    named = come_named lawful allowed m s p at v come

    -- the conditional store is allowed there, where the call was
    pub may_try : MayStoreIf lawful allowed (sight_of s) at stamp refs numbers
        → MayEnter lawful allowed (sight_of p) (tried_at p v stamp refs numbers Stored)
    may_try may =
        subst (λ (c : Sight U). MayStoreIf lawful allowed c at stamp refs numbers) (sym same) may
        (known_at p v).name named

    module _ (t : Facts U) where
      -- where an attempt stored, the call stores all fields
      pub stores_all : Ends lawful allowed m p (tried_at p v stamp refs numbers Stored) 1 t
          → StoresAll lawful allowed (sight_of s) (sight_of t) at stamp refs numbers
      stores_all ends =
          subst (λ (c : Sight U). StoresAll lawful allowed c (sight_of t) at stamp refs numbers) same
          (stores_all_enters lawful allowed (sight_of p) (sight_of t) at stamp refs numbers
          (known_at p v).name named ends.entry ends.names ends.room)

      -- where an attempt found another stamp, the call answers that
      pub finds_changed : (found : ℕ)
          → Ends lawful allowed m p (tried_at p v stamp refs numbers (Changed found)) 0 t
          → FindsChanged lawful allowed (sight_of s) (sight_of t) at stamp refs numbers found
      finds_changed found ends =
          let room : room_of t.part ≡ room_of p.part = let r = ends.room in omega arith in
          subst (λ (c : Sight U). FindsChanged lawful allowed c (sight_of t) at stamp refs numbers found) same
          (finds_changed_enters lawful allowed (sight_of p) (sight_of t) at stamp refs numbers found
          (known_at p v).name named ends.entry ends.names room)
