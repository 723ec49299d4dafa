-- The pc that a logged store writes names the entry that was not active: in a memory that has it, the other entry is the active one.
use Rattle.std.proofs.Common.{◌≡◌, ℕ, ◌+◌, ◌/◌, ◌^◌, ◌<◌, Bool, true, false, cond, not, eqb, refl, ap, ◌∙◌, arith, eq-eqb, ne_eqb}
use Rattle.image.specs.declared.Field.{Field}
use Rattle.image.specs.declared.Field.TheVariants.{Pc, Addr0, Val0, Addr1, Val1}
use Rattle.image.specs.Place.{field, Memory}
use Rattle.image.specs.Image.{index_of}
use Rattle.image.proofs.Apart.{value-behind}
use Rattle.worklog.specs.Log.{second, spare_addr, spare_val, active_addr, active_val, switched}

private-top : (s : ℕ) (b : Bool) → s < 64 → not (eqb (cond b (s + 1) (s + 1 + 2 ^ 63) / 2 ^ 63) 0) ≡ not b
private-top s true l = ap not (eq-eqb ((s + 1) / 2 ^ 63) 0 (omega arith))
private-top s false l = ap not (ne_eqb ((s + 1 + 2 ^ 63) / 2 ^ 63) 0 (λ e. omega arith))

private-turned : (x y : Field) (b : Bool) → cond (not b) x y ≡ cond b y x
private-turned x y true = refl
private-turned x y false = refl

module _ (n : ℕ) (rd : Memory) (d s : ℕ) (small : s < 64) (re : Memory) (e : re (field Pc d) ≡ switched n rd d s) where
  switched-second : second n re d ≡ not (second n rd d)
  unfolding switched second
  switched-second = rw e (private-top s (second n rd d) small)

  pub switched-addr : active_addr n re d ≡ spare_addr n rd d
  unfolding active_addr spare_addr
  switched-addr = rw switched-second (private-turned Addr1 Addr0 (second n rd d))

  pub switched-val : active_val n re d ≡ spare_val n rd d
  unfolding active_val spare_val
  switched-val = rw switched-second (private-turned Val1 Val0 (second n rd d))

-- the spare entry's value word stands behind its address word
pub spare-behind : (n : ℕ) (rd : Memory) (d : ℕ) → index_of n (field (spare_val n rd d) d) ≡ index_of n (field (spare_addr n rd d) d) + 1
unfolding spare_addr spare_val
spare-behind n rd d = value-behind n (second n rd d) d
