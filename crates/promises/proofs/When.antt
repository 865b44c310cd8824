-- Each call gives each number when, and only when, its condition holds and no lower one does.
use mathlib.Core.Path.{◌≡◌, refl, sym, subst}
use mathlib.Core.Bool.{Bool, true, false, not, ◌||◌}
use mathlib.Core.List.{List, [], ◌∷◌}
use Prim.Native.Nat.{ℕ, ◌+◌, ◌-◌, ◌≤◌, ◌<◌}
use borrow.Author.Tests.{ltb-true, ltb-false, lt-ltb, le-ltb, eqb-true, eq-eqb}
use lib.Dec.{ltb, eqb}
use lib.IntN.{ℤ}
use lib.ListN.{length}
use Rattle.answers.specs.Answers.{Answer, number}
use Rattle.answers.specs.Limits.{COEF_LIMIT, WHT_LIMIT, SIDE_LIMIT, LIST_LIMIT, codeable}
use Rattle.answers.specs.Bad.{bad_depth, retired, bad_size, bad_side, bad_room, bad_lossless, bad_tx_type, bad_quantizer, any_beyond}
use Rattle.answers.proofs.Numbers.{Applies, there}
use Rattle.plane.specs.Place.{area_of}
use Rattle.quant.specs.Places.{dequant_all}
use Rattle.answers.specs.Sizes.{area}
use Rattle.idct.specs.Driver as D
use Rattle.reconstruct.specs.Reconstruct as R
use Rattle.fwd_dct.specs.Forward as F
use Rattle.fwd_dct.specs.Forward.{RESIDUAL_LIMIT}
use Rattle.fwd_transform.specs.Quantize as Q
use Rattle.fwd_transform.specs.ForwardWht.{wht_answer, Forwarded}
use Rattle.promises.specs.Exactly.{Exactly, InOrder}
use Rattle.promises.specs.Conditions.{NoQuantizer}
use Rattle.promises.specs.When as W
use Rattle.promises.proofs.Exactly.{Each, none, more, here_if, exactly, in_order}
use Rattle.promises.proofs.Tests as T

-- ---- n outside 2 to 5
pub no_side : (n : ℕ) → bad_side n ≡ true → 2 ≤ n → n ≤ 5 → ⊥
unfolding bad_side
no_side n h l m = T.never (rw (le-ltb n 2 l, le-ltb 5 n m) at h)

pub side_test : (n : ℕ) → (2 ≤ n → n ≤ 5 → ⊥) → bad_side n ≡ true
unfolding bad_side
side_test n h = go (ltb n 2) (ltb 5 n) refl refl
  where
    go : (x y : Bool) → ltb n 2 ≡ x → ltb 5 n ≡ y → ltb n 2 || ltb 5 n ≡ true
    go true y p q = rw p
    go false true p q = rw (p, q)
    go false false p q = absurd (h (ltb-false n 2 p) (ltb-false 5 n q))

-- ---- the 2D drivers
driver_has : (u : D.Input) (n : ℕ) → W.Driver u n
    → Applies n
    ((2, bad_side u.n)
    ∷ (3, bad_lossless u.lossless (u.n - 2))
    ∷ (4, bad_tx_type u.lossless (u.n - 2) u.tx_type)
    ∷ (6, bad_room (length u.block) u.n)
    ∷ (9, any_beyond COEF_LIMIT (area u.n) u.block)
    ∷ [])
driver_has u n (W.side h) = here_if 2 _ _ (side_test u.n h)
driver_has u n (W.lossless h) = there (here_if 3 _ _ (T.lossless_test u.lossless (u.n - 2) h))
driver_has u n (W.tx_type h) = there (there (here_if 4 _ _ (T.tx_type_test u.lossless (u.n - 2) u.tx_type h)))
driver_has u n (W.room h) = there (there (there (here_if 6 _ _ (lt-ltb (length u.block) (area u.n) h))))
driver_has u n (W.coefficient h) = there (there (there (there (here_if 9 _ _ (T.beyond_test COEF_LIMIT (area u.n) u.block h)))))

pub driver_exactly : (u : D.Input) → Exactly (W.Driver u) (D.answer_of u)
unfolding D.answer_of
driver_exactly u =
    exactly (W.Driver u) _ tt
    (more (λ e. W.side (no_side u.n e))
    (more (λ e. W.lossless (T.lossless_at_lem u.lossless (u.n - 2) e))
    (more (λ e. W.tx_type (T.no_tx_type u.lossless (u.n - 2) u.tx_type e))
    (more (λ e. W.room (ltb-true (length u.block) (area u.n) e))
    (more (λ e. W.coefficient (T.some_beyond COEF_LIMIT (area u.n) u.block e)) none)))))
    (driver_has u)

-- `inverse_transform_2d` and `inverse_transform_2d_reference`
pub driver_when : (u : D.Input) (a : Answer) (after : List ℤ) → D.Driven u a after → Exactly (W.Driver u) (number a)
driver_when u a after d = subst (λ (n : ℕ). Exactly (W.Driver u) n) (sym d.answered) (driver_exactly u)

-- ---- reconstruction: two tests of one number
no_quantizers : (u : R.Input) → R.bad_quantizers u.dc u.ac ≡ true → W.Reconstruct u 5
unfolding R.bad_quantizers
no_quantizers u h =
    T.or_true (bad_quantizer u.dc.0) (bad_quantizer u.ac.0) (λ e. W.dc (T.no_quantizer u.dc.0 e)) (λ e. W.ac (T.no_quantizer u.ac.0 e)) h

dc_test : (u : R.Input) → NoQuantizer u.dc.0 → R.bad_quantizers u.dc u.ac ≡ true
unfolding R.bad_quantizers
dc_test u b = T.left (bad_quantizer u.dc.0) (bad_quantizer u.ac.0) (T.quantizer_test u.dc.0 b)

ac_test : (u : R.Input) → NoQuantizer u.ac.0 → R.bad_quantizers u.dc u.ac ≡ true
unfolding R.bad_quantizers
ac_test u b = T.right (bad_quantizer u.dc.0) (bad_quantizer u.ac.0) (T.quantizer_test u.ac.0 b)

no_plane : (u : R.Input) → R.bad_plane (length u.samples) u.plane ≡ true → W.Reconstruct u 7
unfolding R.bad_plane
no_plane u h =
    let s = ltb u.plane.stride u.plane.width in
    let l = ltb SIDE_LIMIT u.plane.stride in
    let w = ltb SIDE_LIMIT u.plane.width in
    let v = ltb SIDE_LIMIT u.plane.height in
    let c = not (eqb (length u.samples) (area_of u.plane)) in
    T.or_true s (l || (w || (v || c))) (λ e. W.short (ltb-true u.plane.stride u.plane.width e))
    (T.or_true l (w || (v || c)) (λ e. W.long (ltb-true SIDE_LIMIT u.plane.stride e))
    (T.or_true w (v || c) (λ e. W.wide (ltb-true SIDE_LIMIT u.plane.width e))
    (T.or_true v c (λ e. W.high (ltb-true SIDE_LIMIT u.plane.height e)) (λ e. W.samples (T.differ (length u.samples) (area_of u.plane) e)))))
    h

short_test : (u : R.Input) → u.plane.stride < u.plane.width → R.bad_plane (length u.samples) u.plane ≡ true
unfolding R.bad_plane
short_test u h = T.left (ltb u.plane.stride u.plane.width) _ (lt-ltb u.plane.stride u.plane.width h)

-- the tests after the first
later_test : (u : R.Input) → ltb SIDE_LIMIT u.plane.stride || (ltb SIDE_LIMIT u.plane.width || (ltb SIDE_LIMIT u.plane.height || not (eqb (length u.samples) (area_of u.plane)))) ≡ true
    → R.bad_plane (length u.samples) u.plane ≡ true
unfolding R.bad_plane
later_test u h = T.right (ltb u.plane.stride u.plane.width) _ h

long_test : (u : R.Input) → SIDE_LIMIT < u.plane.stride → R.bad_plane (length u.samples) u.plane ≡ true
long_test u h = later_test u (T.left (ltb SIDE_LIMIT u.plane.stride) _ (lt-ltb SIDE_LIMIT u.plane.stride h))

wide_test : (u : R.Input) → SIDE_LIMIT < u.plane.width → R.bad_plane (length u.samples) u.plane ≡ true
wide_test u h =
    later_test u (T.right (ltb SIDE_LIMIT u.plane.stride) _ (T.left (ltb SIDE_LIMIT u.plane.width) _ (lt-ltb SIDE_LIMIT u.plane.width h)))

high_test : (u : R.Input) → SIDE_LIMIT < u.plane.height → R.bad_plane (length u.samples) u.plane ≡ true
high_test u h =
    later_test u
    (T.right (ltb SIDE_LIMIT u.plane.stride) _
    (T.right (ltb SIDE_LIMIT u.plane.width) _ (T.left (ltb SIDE_LIMIT u.plane.height) _ (lt-ltb SIDE_LIMIT u.plane.height h))))

samples_test : (u : R.Input) → (length u.samples ≡ area_of u.plane → ⊥) → R.bad_plane (length u.samples) u.plane ≡ true
samples_test u h =
    later_test u
    (T.right (ltb SIDE_LIMIT u.plane.stride) _
    (T.right (ltb SIDE_LIMIT u.plane.width) _ (T.right (ltb SIDE_LIMIT u.plane.height) _ (T.differs (length u.samples) (area_of u.plane) h))))

reconstruct_has : (u : R.Input) (n : ℕ) → W.Reconstruct u n
    → Applies n
    ((1, bad_depth u.depth)
    ∷ (2, bad_size u.size)
    ∷ (3, bad_lossless u.lossless u.size)
    ∷ (4, bad_tx_type u.lossless u.size u.tx_type)
    ∷ (5, R.bad_quantizers u.dc u.ac)
    ∷ (6, not (eqb (length u.tokens) (area (u.size + 2))))
    ∷ (7, R.bad_plane (length u.samples) u.plane)
    ∷ (8, any_beyond (codeable u.depth) (length u.tokens) u.tokens)
    ∷ (9, R.bad_coefficient u.size u.dc u.ac u.tokens)
    ∷ [])
unfolding R.bad_coefficient
reconstruct_has u n (W.depth h) = here_if 1 _ _ (T.depth_test u.depth h)
reconstruct_has u n (W.size h) = there (here_if 2 _ _ (lt-ltb 3 u.size h))
reconstruct_has u n (W.lossless h) = there (there (here_if 3 _ _ (T.lossless_test u.lossless u.size h)))
reconstruct_has u n (W.tx_type h) = there (there (there (here_if 4 _ _ (T.tx_type_test u.lossless u.size u.tx_type h))))
reconstruct_has u n (W.dc h) = there (there (there (there (here_if 5 _ _ (dc_test u h)))))
reconstruct_has u n (W.ac h) = there (there (there (there (here_if 5 _ _ (ac_test u h)))))
reconstruct_has u n (W.count h) = there (there (there (there (there (here_if 6 _ _ (T.differs (length u.tokens) (area (u.size + 2)) h))))))
reconstruct_has u n (W.short h) = there (there (there (there (there (there (here_if 7 _ _ (short_test u h)))))))
reconstruct_has u n (W.long h) = there (there (there (there (there (there (here_if 7 _ _ (long_test u h)))))))
reconstruct_has u n (W.wide h) = there (there (there (there (there (there (here_if 7 _ _ (wide_test u h)))))))
reconstruct_has u n (W.high h) = there (there (there (there (there (there (here_if 7 _ _ (high_test u h)))))))
reconstruct_has u n (W.samples h) = there (there (there (there (there (there (here_if 7 _ _ (samples_test u h)))))))
reconstruct_has u n (W.token h) =
    there (there (there (there (there (there (there (here_if 8 _ _ (T.beyond_test (codeable u.depth) (length u.tokens) u.tokens h))))))))
reconstruct_has u n (W.coefficient h) =
    there (there (there (there (there (there (there (there
    (here_if 9 _ _ (T.beyond_test COEF_LIMIT (length u.tokens) (dequant_all u.size u.dc u.ac u.tokens) h)))))))))

pub reconstruct_exactly : (u : R.Input) → Exactly (W.Reconstruct u) (R.answer_of u)
unfolding R.answer_of R.bad_coefficient
reconstruct_exactly u =
    exactly (W.Reconstruct u) _ tt
    (more (λ e. W.depth (T.no_depth u.depth e))
    (more (λ e. W.size (ltb-true 3 u.size e))
    (more (λ e. W.lossless (T.lossless_at_lem u.lossless u.size e))
    (more (λ e. W.tx_type (T.no_tx_type u.lossless u.size u.tx_type e))
    (more (no_quantizers u)
    (more (λ e. W.count (T.differ (length u.tokens) (area (u.size + 2)) e))
    (more (no_plane u)
    (more (λ e. W.token (T.some_beyond (codeable u.depth) (length u.tokens) u.tokens e))
    (more (λ e. W.coefficient (T.some_beyond COEF_LIMIT (length u.tokens) (dequant_all u.size u.dc u.ac u.tokens) e)) none)))))))))
    (reconstruct_has u)

-- `reconstruct_block`
pub reconstruct_when : (u : R.Input) (a : Answer) (after : List ℕ) → R.Reconstructed u a after → Exactly (W.Reconstruct u) (number a)
reconstruct_when u a after r = subst (λ (n : ℕ). Exactly (W.Reconstruct u) n) (sym r.answered) (reconstruct_exactly u)

-- ---- the quantizer
abbrev pub quantize_steps : Q.Input → List (ℕ × Bool)
quantize_steps u =
    (1, bad_depth u.depth)
    ∷ (2, retired u.depth)
    ∷ (3, bad_size u.size)
    ∷ (4, bad_quantizer u.dc.0 || bad_quantizer u.ac.0)
    ∷ (5, ltb LIST_LIMIT (length u.coefs))
    ∷ (6, any_beyond COEF_LIMIT (length u.coefs) u.coefs)
    ∷ []

pub quantize_has : (u : Q.Input) (n : ℕ) → W.Quantize u n → Applies n (quantize_steps u)
quantize_has u n (W.Quantize.depth h) = here_if 1 _ _ (T.depth_test u.depth h)
quantize_has u n (W.Quantize.retired h) = there (here_if 2 _ _ (eq-eqb u.depth 12 h))
quantize_has u n (W.Quantize.size h) = there (there (here_if 3 _ _ (lt-ltb 3 u.size h)))
quantize_has u n (W.Quantize.dc h) = there (there (there (here_if 4 _ _ (T.left (bad_quantizer u.dc.0) (bad_quantizer u.ac.0) (T.quantizer_test u.dc.0 h)))))
quantize_has u n (W.Quantize.ac h) = there (there (there (here_if 4 _ _ (T.right (bad_quantizer u.dc.0) (bad_quantizer u.ac.0) (T.quantizer_test u.ac.0 h)))))
quantize_has u n (W.Quantize.count h) = there (there (there (there (here_if 5 _ _ (lt-ltb LIST_LIMIT (length u.coefs) h)))))
quantize_has u n (W.Quantize.coefficient h) = there (there (there (there (there (here_if 6 _ _ (T.beyond_test COEF_LIMIT (length u.coefs) u.coefs h))))))

pub quantize_each : (u : Q.Input) → Each (W.Quantize u) (quantize_steps u)
quantize_each u =
    more (λ e. W.Quantize.depth (T.no_depth u.depth e))
    (more (λ e. W.Quantize.retired (eqb-true u.depth 12 e))
    (more (λ e. W.Quantize.size (ltb-true 3 u.size e))
    (more
    (T.or_true (bad_quantizer u.dc.0) (bad_quantizer u.ac.0) (λ e. W.Quantize.dc (T.no_quantizer u.dc.0 e)) (λ e. W.Quantize.ac (T.no_quantizer u.ac.0 e)))
    (more (λ e. W.Quantize.count (ltb-true LIST_LIMIT (length u.coefs) e))
    (more (λ e. W.Quantize.coefficient (T.some_beyond COEF_LIMIT (length u.coefs) u.coefs e)) none)))))

quantize_order : (u : Q.Input) → InOrder (W.Quantize u) W.quantize_numbers (Q.answer_of u)
unfolding Q.answer_of
quantize_order u = in_order (W.Quantize u) W.quantize_numbers (quantize_steps u) refl tt (quantize_each u) (quantize_has u)

-- `quantize_block_tx`; and `quantize_block`, whose size is 0 and depth 8
pub quantize_when : (u : Q.Input) (a : Answer) (after : List ℤ) → Q.Quantized u a after → InOrder (W.Quantize u) W.quantize_numbers (number a)
quantize_when u a after q = subst (λ (n : ℕ). InOrder (W.Quantize u) W.quantize_numbers n) (sym q.answered) (quantize_order u)

-- ---- the forward WHT
forward_has : (block : List ℤ) (n : ℕ) → W.Forward block n
    → Applies n ((6, not (eqb (length block) 16)) ∷ (9, any_beyond WHT_LIMIT (length block) block) ∷ [])
forward_has block n (W.count h) = here_if 6 _ _ (T.differs (length block) 16 h)
forward_has block n (W.coefficient h) = there (here_if 9 _ _ (T.beyond_test WHT_LIMIT (length block) block h))

forward_exactly : (block : List ℤ) → Exactly (W.Forward block) (wht_answer block)
unfolding wht_answer
forward_exactly block =
    exactly (W.Forward block) _ tt
    (more (λ e. W.count (T.differ (length block) 16 e)) (more (λ e. W.coefficient (T.some_beyond WHT_LIMIT (length block) block e)) none))
    (forward_has block)

-- `forward_wht_2d`
pub forward_when : (block : List ℤ) (a : Answer) (after : List ℤ) → Forwarded block a after → Exactly (W.Forward block) (number a)
forward_when block a after f = subst (λ (n : ℕ). Exactly (W.Forward block) n) (sym f.answered) (forward_exactly block)

-- ---- the forward DCT
dct_has : (u : F.Input) (n : ℕ) → W.ForwardDct u n
    → Applies n ((2, bad_side u.n) ∷ (6, not (eqb (length u.block) (area u.n))) ∷ (9, any_beyond RESIDUAL_LIMIT (length u.block) u.block) ∷ [])
dct_has u n (W.side h) = here_if 2 _ _ (side_test u.n h)
dct_has u n (W.count h) = there (here_if 6 _ _ (T.differs (length u.block) (area u.n) h))
dct_has u n (W.residual h) = there (there (here_if 9 _ _ (T.beyond_test RESIDUAL_LIMIT (length u.block) u.block h)))

dct_exactly : (u : F.Input) → Exactly (W.ForwardDct u) (F.answer_of u)
unfolding F.answer_of
dct_exactly u =
    exactly (W.ForwardDct u) _ tt
    (more (λ e. W.side (no_side u.n e))
    (more (λ e. W.count (T.differ (length u.block) (area u.n) e)) (more (λ e. W.residual (T.some_beyond RESIDUAL_LIMIT (length u.block) u.block e)) none)))
    (dct_has u)

-- `forward_dct_2d`
pub dct_when : (u : F.Input) (a : Answer) (after : List ℤ) → F.Transformed u a after → Exactly (W.ForwardDct u) (number a)
dct_when u a after f = subst (λ (n : ℕ). Exactly (W.ForwardDct u) n) (sym f.answered) (dct_exactly u)
