-- Roots, mean elements and positions from their parts.
use Rattle.sgp4_model.specs.Kepler.{SolvesKepler}
use Rattle.rows_model.specs.Orbit.{MeetsKepler, PartsMakeMeanElements, PartsMakePositions, PartsMakeRoots}
use Rattle.exact.specs.Rational.{ℚ}
use Rattle.sgp4_model.specs.Angle.{Pair}

solves : {pi u ax ay angle : ℚ} {turn : Pair} → MeetsKepler pi u ax ay angle turn → SolvesKepler pi u ax ay angle turn
solves h = record { pair = h.pair; residual = h.residual }

pub parts_make_roots : PartsMakeRoots
parts_make_roots pi u ax ay angle turn h = record { turn = turn; solves = solves h }

pub parts_make_mean_elements : PartsMakeMeanElements
parts_make_mean_elements k t s pi m h = record {
  secular = s;
  unguarded = record {
    angles = record {
      mf_is = h.mf_is;
      wf_is = h.wf_is;
      om_is = h.om_is;
      mf_pair = h.mf_pair;
      g_is = h.g_is;
      mm_is = h.mm_is;
      wm_is = h.wm_is;
    };
    factors = record {
      tempa_is = h.tempa_is;
      mm_pair = h.mm_pair;
      tempe_is = h.tempe_is;
      templ_is = h.templ_is;
    };
    elements = record {
      am_is = h.am_is;
      ecc_is = h.ecc_is;
      em_is = h.em_is;
      em_is_else = h.em_is_else;
      ml_is = h.ml_is;
      wm_is = h.argument_is;
      om_is = h.node_is;
    };
  };
  guarded = record { low = h.ecc_low; high = h.ecc_high };
  axis_guarded = h.axis_guarded;
}

pub parts_make_positions : PartsMakePositions
parts_make_positions k m q pi root r h = record {
  periodic = q;
  unguarded = record {
    long_period = record {
      wm_pair = h.wm_pair;
      ax_is = h.ax_is;
      am_divides = h.am_divides;
      v_is = h.v_is;
      ay_is = h.ay_is;
      u_is = h.u_is;
      guarded = h.vector_guarded;
    };
    kepler = solves h.kepler;
    preliminaries = record {
      ec_is = h.ec_is;
      es_is = h.es_is;
      el_is = h.el_is;
      pl_is = h.pl_is;
      guarded = h.latus_guarded;
      rl_is = h.rl_is;
      b_is = h.b_is;
    };
    argument_of_latitude = record {
      rl_divides = h.rl_divides;
      b_divides = h.b_divides;
      su_is = h.su_is;
      cu_is = h.cu_is;
      s2_is = h.s2_is;
      c2_is = h.c2_is;
      pl_divides = h.pl_divides;
      k1_is = h.k1_is;
      k2_is = h.k2_is;
    };
    short_period = record {
      mrt_is = h.mrt_is;
      du_is = h.du_is;
      xnode_is = h.xnode_is;
      xinc_is = h.xinc_is;
    };
    corrected_latitude = record {
      du_pair = h.du_pair;
      sw_is = h.sw_is;
      cw_is = h.cw_is;
    };
    vector = record {
      xnode_pair = h.xnode_pair;
      xinc_pair = h.xinc_pair;
      x_is = h.x_is;
      y_is = h.y_is;
      z_is = h.z_is;
    };
  };
  guarded = h.distance_guarded;
}
