-- The drag terms of higher order (Spacetrack Report No. 3, 1980, SGP4; AIAA 2006-6753, appendix). Times are in minutes.
use Rattle.std.specs.Prelude.{◌≡◌, pos}
use Rattle.exact.specs.Rational.{ℚ, ◌+ℚ◌, ◌*ℚ◌, ◌^ℚ◌, ratio, zero_ℚ}
use Rattle.sgp4_model.specs.Density.{DensityRecord}
use Rattle.sgp4_model.specs.Drag.{DragRecord}
use Rattle.sgp4_model.specs.MeanMotion.{MotionRecord, IsFullMotion, IsSimpleMotion}
use Rattle.sgp4_model.specs.Numerals.{whole, decimal}

pub record HigherDragRecord : Type 0 where
  pub d2 : ℚ
  pub w : ℚ
  pub d3 : ℚ
  pub d4 : ℚ
  pub t3cof : ℚ
  pub t4cof : ℚ
  pub t5cof : ℚ

module _ (m : MotionRecord) (d : DensityRecord) (g : DragRecord) (h : HigherDragRecord) where
  open m use {a}
  open d use {s, xi}
  open g use {c1}
  open h use {d2, w, d3, d4, t3cof, t4cof, t5cof}

  -- the terms of higher order in the full form
  pub record IsFullHigherDrag : Type 0 where
    pub d2_is : d2 ≡ whole 4 *ℚ a *ℚ xi *ℚ c1 ^ℚ 2
    pub w_is : w ≡ d2 *ℚ xi *ℚ c1 *ℚ ratio (pos 1) 3
    pub d3_is : d3 ≡ (whole 17 *ℚ a +ℚ s) *ℚ w
    pub d4_is : d4 ≡ decimal 5 1 *ℚ w *ℚ a *ℚ xi *ℚ (whole 221 *ℚ a +ℚ whole 31 *ℚ s) *ℚ c1
    pub t3cof_is : t3cof ≡ d2 +ℚ whole 2 *ℚ c1 ^ℚ 2
    pub t4cof_is : t4cof ≡ decimal 25 2 *ℚ (whole 3 *ℚ d3 +ℚ c1 *ℚ (whole 12 *ℚ d2 +ℚ whole 10 *ℚ c1 ^ℚ 2))
    pub t5cof_is :
        t5cof ≡
        decimal 2 1
        *ℚ (
        whole 3 *ℚ d4 +ℚ whole 12 *ℚ c1 *ℚ d3 +ℚ whole 6 *ℚ d2 ^ℚ 2
        +ℚ whole 15 *ℚ c1 ^ℚ 2 *ℚ (whole 2 *ℚ d2 +ℚ c1 ^ℚ 2)
        )

  -- in the simple form there are none; w is free
  pub record IsNoHigherDrag : Type 0 where
    pub d2_is : d2 ≡ zero_ℚ
    pub d3_is : d3 ≡ zero_ℚ
    pub d4_is : d4 ≡ zero_ℚ
    pub t3cof_is : t3cof ≡ zero_ℚ
    pub t4cof_is : t4cof ≡ zero_ℚ
    pub t5cof_is : t5cof ≡ zero_ℚ

  -- the terms of higher order
  pub record IsHigherDragTerms : Type 0 where
    pub full : IsFullMotion m → IsFullHigherDrag
    pub simple : IsSimpleMotion m → IsNoHigherDrag
