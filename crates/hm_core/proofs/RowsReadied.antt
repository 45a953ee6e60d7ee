-- The places and the versions once an act freed rows, and once it ended a cycle.
use Rattle.std.proofs.Common.{◌≡◌, ◌<◌, ◌+◌, ◌-◌, ◌*◌, ◌&&◌, ◌||◌, ℕ, Bool, true, false, if◌then◌else◌, nat_lt, List, length, set, refl, sym, ap, ◌∙◌, subst, get_or, Option, None, ◌/◌}
use Rattle.hm_core.proofs.Words.{fun_ext, set-get_or, get_or-set_same, AnyUsage, Act, Looks, Builds, Part, Shape, Known, HandState, no_hand, Row, row_at, index_of}
use Rattle.hm_shape.specs.declared.roles.Role.{Role}
use Rattle.hm_moves.specs.declared.part.Ties.{Ties}
use Rattle.hm_moves.specs.declared.moving.Act.TheVariants.{Ticks, Shifts}
use Rattle.hm_moves.specs.declared.moving.Shift.TheVariants.{LoadRoles, Join, Turn, Reuse}
use Rattle.hm_moves.specs.After.{ends_cycle, freed_rows, index_readied, is_row_of, places_readied, with_dead, with_roles}
use Rattle.hm_moves.specs.Cycles.{is_from, role_at}
use Rattle.hm_moves.specs.Places.{Places}
use Rattle.hm_moves.specs.Shifts.{ties_readied}
use Rattle.hm_core.specs.Hands.{ending, part_by}
use Rattle.hm_moves.specs.declared.part.End.{End}
use Rattle.hm_core.specs.Running.{places_by, role_in}
use Rattle.hm_core.specs.Rows.{AreDead, AreForgotten, AreFreed, ends_by, is_ended, is_freed_by}
use Rattle.hm_core.proofs.CallerChanged.{roles_same}
use Rattle.hm_core.proofs.RoleRows.{roles_set}
use Rattle.hm_core.proofs.RowsChanged.{places_dead, places_roles}

-- rows and versions after what an act of a caller q, which found x, does to them before a version
-- is published: first some rows are freed, and then some die
pub record AreReadied (s : Shape) (hands : List HandState) (q : ℕ) (act : Act) (x : ℕ)
    (rows freed now : List Row) (known known_now : List (Option Known)) : Type 0 where
  pub frees : AreFreed (is_freed_by s q (get_or hands q no_hand) act) rows freed
  pub ended : AreDead (is_ended (ends_by act x) s hands) freed now
  pub forgotten : AreForgotten s (is_ended (ends_by act x) s hands) known known_now
  pub rows_long : length now ≡ length rows
  pub known_long : length known_now ≡ length known

or_false : (b : Bool) → (b || false) ≡ b
or_false true = refl
or_false false = refl

-- where no cycle ends, no row dies
pub alive : (s : Shape) (hands : List HandState) (old new : List Row)
    → AreDead (is_ended false s hands) old new
    → (row : ℕ) → row_at new row ≡ row_at old row
alive s hands old new are row =
    are row ∙ (λ i. record (row_at old row) { dead = or_false (row_at old row).dead i })

-- the same is counted of rows that are the same
counted : (s : Shape) (hands later : List HandState) (rows new : List Row) (done : ℕ)
    → role_in s later ≡ role_in s hands → ((row : ℕ) → row_at new row ≡ row_at rows row)
    → places_by s later new done ≡ places_by s hands rows done
counted s hands later rows new done same are = λ i. record {
  used = λ row. (are row i).used;
  made = λ row. (are row i).made;
  freed = λ row. (are row i).freed;
  role = λ row. same i row;
  dead = λ row. (are row i).dead;
  done = done;
}

-- of three tests in another order
turned : (f r a b : Bool) → (r ≡ true → a ≡ b) → (f && (r && b)) ≡ (r && a && f)
turned true true true b e = sym (e refl)
turned true true false b e = sym (e refl)
turned true false a b e = refl
turned false true true b e = refl
turned false true false b e = refl
turned false false a b e = refl

chosen : {A : Type 0} (b : Bool) (x y z : A) → z ≡ (if b then x else y) → b ≡ true → z ≡ x
chosen true x y z e is = e
chosen false x y z e is = absurd (cc)

module _ (s : Shape) (hands : List HandState) (q : ℕ) (low : q < length hands) where
  abbrev h : HandState
  h = get_or hands q no_hand

  abbrev p : Part AnyUsage
  p = part_by s q h

  -- a row of the caller has the role that the caller gives it
  own_role : (row : ℕ) → is_row_of s q row ≡ true
      → role_in s hands row ≡ role_at h.cycle.ties.roles (row - q * s.regions)
  own_role row is =
      chosen (is_row_of s q row) (role_at h.cycle.ties.roles (row - q * s.regions))
      (role_in s hands row) (role_in s hands row)
      (sym (ap (λ (l : List HandState). role_in s l row) (set-get_or hands q no_hand))
      ∙ roles_set s hands q h low row) is

  -- the rows that the code frees are those that the caller frees
  freed_same : (places : Places) → places.role ≡ role_in s hands
      → (λ row. nat_lt h.cycle.ties.done h.cycle.clock.stage.done
      && (is_row_of s q row && is_from (role_at h.cycle.ties.roles (row - q * s.regions))))
      ≡ freed_rows p places
  freed_same places same = fun_ext (λ row.
      turned (nat_lt h.cycle.ties.done h.cycle.clock.stage.done) (is_row_of s q row)
      (is_from (places.role row)) (is_from (role_at h.cycle.ties.roles (row - q * s.regions)))
      (λ is. ap (λ (f : ℕ → Role). is_from (f row)) same ∙ ap is_from (own_role row is)))

  -- versions that are forgotten leave the index
  forgets : (act : Act) (x done : ℕ) (rows : List Row) (known : List (Option Known)) (v : ℕ)
      → (if is_ended (ends_by act x) s hands (v / s.versions) then None else index_of known v)
      ≡ index_readied s (places_by s hands rows done) (index_of known) act x v
  forgets (Looks l) x done rows known v = refl
  forgets (Builds b) x done rows known v = refl
  forgets (Ticks t) x done rows known v = refl
  forgets (Shifts f) x done rows known v = refl

  module _ (act : Act) (x : ℕ) (rows freed now : List Row) (known known_now : List (Option Known))
      (are : AreReadied s hands q act x rows freed now known known_now) (done : ℕ) where
    pub index_readied_is : index_of known_now
        ≡ index_readied s (places_by s hands rows done) (index_of known) act x
    index_readied_is = fun_ext (λ v. are.forgotten v ∙ forgets act x done rows known v)

  -- and the places are those after the act, where the caller has the regions that it leaves
  pub places_readied_are : (act : Act) (x : ℕ) (rows freed now : List Row)
      (known known_now : List (Option Known))
      → AreReadied s hands q act x rows freed now known known_now
      → (done : ℕ) (k : HandState) → k.cycle.ties ≡ ties_readied p act
      → places_by s (set hands q k) now (if ends_by act x then done + 1 else done)
      ≡ places_readied p (places_by s hands rows done) act x
  places_readied_are (Looks l) x rows freed now known known_now are done k ties =
      counted s hands (set hands q k) rows now done
      (roles_same s hands q k low (ap (λ (t : Ties). t.roles) ties))
      (λ row. alive s hands freed now are.ended row ∙ are.frees row)
  places_readied_are (Builds b) x rows freed now known known_now are done k ties =
      counted s hands (set hands q k) rows now done
      (roles_same s hands q k low (ap (λ (t : Ties). t.roles) ties))
      (λ row. alive s hands freed now are.ended row ∙ are.frees row)
  places_readied_are (Ticks t) x rows freed now known known_now are done k ties =
      places_dead s hands (set hands q k) freed now done (ends_cycle t x)
      (roles_same s hands q k low (ap (λ (t : Ties). t.roles) ties)) are.ended
      ∙ ap (with_dead (ends_cycle t x)) (counted s hands hands rows freed done refl are.frees)
  places_readied_are (Shifts (LoadRoles of)) x rows freed now known known_now are done k ties =
      counted s hands (set hands q k) rows now done
      (roles_same s hands q k low (ap (λ (t : Ties). t.roles) ties))
      (λ row. alive s hands freed now are.ended row ∙ are.frees row)
  places_readied_are (Shifts (Join region roles)) x rows freed now known known_now are done k ties =
      counted s (set hands q k) (set hands q k) freed now done refl
      (alive s hands freed now are.ended)
      ∙ (places_roles s hands rows freed done q k roles
      (is_freed_by s q h (Shifts (Join region roles))) low
      (ap (λ (t : Ties). t.roles) ties) are.frees
      ∙ ap (λ (f : ℕ → Bool). with_roles s q roles f (places_by s hands rows done))
      (freed_same (places_by s hands rows done) refl))
  places_readied_are (Shifts (Turn region roles)) x rows freed now known known_now are done k ties =
      counted s (set hands q k) (set hands q k) freed now done refl
      (alive s hands freed now are.ended)
      ∙ places_roles s hands rows freed done q k roles (λ row. false) low
      (ap (λ (t : Ties). t.roles) ties) are.frees
  places_readied_are (Shifts (Reuse roles)) x rows freed now known known_now are done k ties =
      counted s (set hands q k) (set hands q k) freed now done refl
      (alive s hands freed now are.ended)
      ∙ (places_roles s hands rows freed done q k roles
      (is_freed_by s q h (Shifts (Reuse roles))) low (ap (λ (t : Ties). t.roles) ties) are.frees
      ∙ ap (λ (f : ℕ → Bool). with_roles s q roles f (places_by s hands rows done))
      (freed_same (places_by s hands rows done) refl))

-- the ends that a caller has noted don't count in this
pub unended : (s : Shape) (hands : List HandState) (q : ℕ) (low : q < length hands)
    (act : Act) (x : ℕ)
    (rows freed now : List Row) (known known_now : List (Option Known)) (k : HandState)
    (ends : List End)
    → k ≡ ending (get_or hands q no_hand) ends
    → AreReadied s (set hands q k) q act x rows freed now known known_now
    → AreReadied s hands q act x rows freed now known known_now
unended s hands q low act x rows freed now known known_now k ends is are =
    let roles = roles_same s hands q k low (ap (λ (l : HandState). l.cycle.ties.roles) is) in
    let here : get_or (set hands q k) q no_hand ≡ ending (get_or hands q no_hand) ends =
    get_or-set_same hands q k no_hand low ∙ is in record {
      frees = subst (λ (l : HandState). AreFreed (is_freed_by s q l act) rows freed) here are.frees;
      ended = subst (λ (f : ℕ → Role). AreDead (λ row. ends_by act x && is_from (f row)) freed now)
          roles are.ended;
      forgotten = subst (λ (f : ℕ → Role). AreForgotten s (λ row. ends_by act x && is_from (f row))
          known known_now) roles are.forgotten;
      rows_long = are.rows_long;
      known_long = are.known_long;
    }
