use Rattle.sgp4_init.proofs.gathered.gathered.Goals as goal

pub returns : goal.returns
returns g c = record {
  gives = λ h v r d k f t s epoch motion density drag rates coefficients series.
      record {
        i = motion.i;
        c = motion.c;
        si = motion.si;
        e = motion.e;
        w0 = epoch.w0;
        o0 = epoch.o0;
        m0 = epoch.m0;
        bstar = epoch.bstar;
        a = motion.a;
        eta = density.eta;
        con41 = motion.con41;
        c5 = drag.c5;
        xmcof = coefficients.xmcof;
        xlcof = coefficients.xlcof;
        aycof = coefficients.aycof;
        delmo = coefficients.delmo;
        sin_m0 = epoch.sin_m0;
        n0 = motion.n0;
        mdot = rates.mdot;
        wdot = rates.wdot;
        odot = rates.odot;
        c1 = drag.c1;
        c4 = drag.c4;
        omgcof = coefficients.omgcof;
        t2cof = coefficients.t2cof;
        d2 = series.d2;
        nodecf = coefficients.nodecf;
        t3cof = series.t3cof;
        d3 = series.d3;
        t4cof = series.t4cof;
        d4 = series.d4;
        t5cof = series.t5cof;
      };
}
