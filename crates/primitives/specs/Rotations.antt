-- The specification's B, H, SB and SH over the arrays T and S. Specification §8.7.1.1.
use Rattle.std.specs.Prelude.{Bool, true, false, List, ℕ, ℤ, pos, ◌+ℤ◌, ◌-ℤ◌, ◌*ℤ◌, get_or, set}
use Rattle.whole.specs.Round.{Round2}
use Rattle.primitives.specs.Cosine.{Cos64, Sin64}

-- x of a rotation of (p, q) by an angle, not rounded
unfoldable pub turn_x : ℤ → ℤ → ℤ → ℤ
turn_x p q angle = p *ℤ Cos64 angle -ℤ q *ℤ Sin64 angle

-- y of such a rotation
unfoldable pub turn_y : ℤ → ℤ → ℤ → ℤ
turn_y p q angle = p *ℤ Sin64 angle +ℤ q *ℤ Cos64 angle

-- x to place a and y to place b; flip exchanges the two
unfoldable pub set_pair : List ℤ → ℕ → ℕ → ℤ → ℤ → Bool → List ℤ
set_pair t a b x y false = set (set t a x) b y
set_pair t a b x y true = set (set t a y) b x

-- B(a, b, angle, flip)
unfoldable pub apply_b : List ℤ → ℕ → ℕ → ℤ → Bool → List ℤ
apply_b t a b angle flip =
    let p = get_or t a (pos 0) in
    let q = get_or t b (pos 0) in
    set_pair t a b (Round2 (turn_x p q angle) 14) (Round2 (turn_y p q angle) 14) flip

-- H(a, b, flip); flipped it is H(b, a, 0)
unfoldable pub apply_h : List ℤ → ℕ → ℕ → Bool → List ℤ
apply_h t a b false = set (set t a (get_or t a (pos 0) +ℤ get_or t b (pos 0))) b (get_or t a (pos 0) -ℤ get_or t b (pos 0))
apply_h t a b true = set (set t b (get_or t b (pos 0) +ℤ get_or t a (pos 0))) a (get_or t b (pos 0) -ℤ get_or t a (pos 0))

-- SB(a, b, angle, flip): out of t into s, not rounded
unfoldable pub apply_sb : List ℤ → List ℤ → ℕ → ℕ → ℤ → Bool → List ℤ
apply_sb t s a b angle flip =
    let p = get_or t a (pos 0) in
    let q = get_or t b (pos 0) in
    set_pair s a b (turn_x p q angle) (turn_y p q angle) flip

-- SH(a, b): out of s into t
unfoldable pub apply_sh : List ℤ → List ℤ → ℕ → ℕ → List ℤ
apply_sh t s a b =
    let x = get_or s a (pos 0) in
    let y = get_or s b (pos 0) in
    set (set t a (Round2 (x +ℤ y) 14)) b (Round2 (x -ℤ y) 14)
