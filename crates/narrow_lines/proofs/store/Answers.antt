-- `narrow_lines::store` meets its contract: after a eights and b turns more, the first 8 a + b numbers of T stand in the line.
use mathlib.Core.Path.{◌≡◌, refl, subst}
use mathlib.Core.List.{List}
use Prim.Native.Nat.{ℕ, ◌<◌, ◌+◌, ◌*◌}
use native.Mathlib.Omega.{arith}
use lib.IntN.{ℤ, pos}
use lib.ListN.{get_or}
use mir.Syntax.{w16}
use mir.Facts.{to_z-of_z}
use Rattle.whole.specs.Inner.{times}
use Rattle.blocks.specs.Inner.{set_line}
use Rattle.narrow.specs.Tile.{raster}
use Rattle.narrow_lines.specs.Inner.{Holds}
use Rattle.narrow_lines.proofs.Tiles.{spot_lt, store_next}
use Rattle.narrow_lines.proofs.store.Goals as goal
use Rattle.narrow_lines.proofs.store.Given.{Over}
use Rattle.narrow_lines.proofs.store.Goals.{After-spot, In-loop-b}

-- the number is one of the line, and its place exists
inside : (g : Over) (c : In-loop-b g) → 8 * c.loop-a.a + c.loop-b.b < c.args.n0
inside g c = omega arith

below : (g : Over) (c : After-spot g) → c.spot.result < 1024
below g c =
    rw c.spot.ensures (spot_lt g.D.Direction.goes_down c.args.n0 c.args.i (8 * c.loop-a.a + c.loop-b.b) c.requires.0 c.requires.1 (inside g c.before.before))

pub loop-a-init : goal.loop-a-init
unfolding set_line times
loop-a-init g c = (omega arith, record { long = c.requires.2; is = refl })

-- so many numbers, counted in another way
module _ (n0 p q k m : ℕ) (t s z : List ℤ) (e : k ≡ m) where
  counted : Holds n0 (set_line (λ z. z) p q k t s) z → Holds n0 (set_line (λ z. z) p q m t s) z
  counted h = subst (λ (j : ℕ). Holds n0 (set_line (λ z. z) p q j t s) z) e h

pub loop-b-init : goal.loop-b-init
loop-b-init g c = (omega arith, λ s e. let f : 8 * c.loop-a.a ≡ 8 * c.loop-a.a + 0 = omega arith in counted _ _ _ _ _ _ s _ f e)

pub loop-b-preserved : goal.loop-b-preserved
loop-b-preserved g c =
    let k = 8 * c.loop-a.a + c.loop-b.b in
    let f : k + 1 ≡ 8 * c.loop-a.a + (c.loop-b.b + 1) = omega arith in
    let e = to_z-of_z {w = w16} {z = get_or c.args.t.now k (pos 0)} (record { sfits = c.z-1.given }) in (
      omega arith,
      λ u h. counted _ _ _ _ _ _ u _ f (rw (e, c.spot.ensures)
          (store_next g.D.Direction.goes_down c.args.n0 c.args.i k c.args.t.now u c.requires.0 c.requires.1 (inside g c.before.before) (c.loop-b.invariant.1 u h))),
    )

pub loop-a-preserved : goal.loop-a-preserved
loop-a-preserved g c =
    let f : 8 * c.loop-a.a + c.loop-b.b ≡ 8 * (c.loop-a.a + 1) = omega arith in
    (omega arith, counted _ _ _ _ _ _ _ _ f (c.loop-b.invariant.1 (raster c.args.n0 c.args.z.now) c.loop-a.invariant.1))

pub returns : goal.returns
returns g c =
    let f : 8 * c.loop-a.a ≡ c.args.n0 = omega (arith, c.requires.0.0) in
    counted _ _ _ _ _ _ _ _ f c.loop-a.invariant.1

pub overflow_mul-k : goal.overflow_mul-k
overflow_mul-k g c = omega (arith, inside g c)

pub overflow_add-k : goal.overflow_add-k
overflow_add-k g c = omega (arith, inside g c)

pub offset_bounds-t-k : goal.offset_bounds-t-k
offset_bounds-t-k g c = omega (arith, inside g c)

pub bounds-t-k : goal.bounds-t-k
bounds-t-k g c = omega (arith, inside g c)

pub spot-requires : goal.spot-requires
spot-requires g c = (c.requires.0.1, c.requires.1, inside g c.before)

pub offset_bounds-z-spot : goal.offset_bounds-z-spot
offset_bounds-z-spot g c = omega (arith, below g c)

pub bounds-z-spot : goal.bounds-z-spot
bounds-z-spot g c = omega (arith, below g c)
