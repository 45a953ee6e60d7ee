use Rattle.std.proofs.Common.{refl, arith}
use Rattle.hm_moves.specs.declared.moving.Act.TheVariants.{Builds}
use Rattle.hm_moves.specs.declared.moving.Build.TheVariants.{StoreOwn}
use Rattle.hm_cells.proofs.Creating.{fits_still, one_more, rest_still, room_still}
use Rattle.hm_cells.proofs.tests.creates.Goals as goal

pub loop-i-preserved : goal.loop-i-preserved
loop-i-preserved g c =
    let l = c.loop-i in
    let e = c.store_own.ensures in
    let new = c.store_own.new.pass in
    record {
      fits = fits_still (λ _ _. Unit {0}) (λ _ _ _. Unit {0}) l.pass new
          (Builds (StoreOwn l.i 0)) 0 c.args.cells.now e.took
          l.invariant.fits;
      rest = rest_still (λ _ _. Unit {0}) (λ _ _ _. Unit {0}) l.pass new l.i 0 l.invariant.sound e.sound
          e.took
          l.invariant.rest;
      room = room_still (λ _ _. Unit {0}) (λ _ _ _. Unit {0}) l.pass new l.i 0 l.invariant.sound e.sound
          e.took
          l.invariant.room;
      sound = e.sound;
      written = one_more (λ _ _. Unit {0}) (λ _ _ _. Unit {0}) l.pass new l.i 0 l.invariant.sound e.sound
          e.took refl
          (omega (arith, c.loop-i-test.true)) l.invariant.written;
    }
