-- What the shell does around the core, up to what the streams give: how many bytes came, and whether the output was written.
use Rattle.std.specs.Prelude.{◌≡◌, ℕ, ◌+◌, ◌-◌, ◌%◌, ◌^◌, ◌≤◌, Bool, true, List, length, take, drop, nat_lt}
use Rattle.pieces.specs.Pieces.{Progress}
use Rattle.day.specs.declared.Stretch.{Stretch}
use Rattle.day.specs.declared.Want.{Want}
use Rattle.day.specs.declared.Want.TheVariants.{Room, Input, Nothing}
use Rattle.day.specs.Core.{Advanced}
use Rattle.day.specs.Wants.{want_of}
use Rattle.stream.specs.declared.Stream.{Stream}
use Rattle.stream.specs.Lines.{ends_in}

-- ---- the input's buffer

-- the bytes that are not taken yet
abbrev pub unread : List ℕ → Stream → List ℕ
unread buf s = take (s.to - s.from) (drop s.from buf)

-- so many bytes came behind those not taken, which are first now; b is the buffer before
abbrev pub refilled : List ℕ → Stream → ℕ → Stream
refilled b s got =
    record {
      day = s.day;
      from = 0;
      to = s.to - s.from + got;
      lines = (s.lines + ends_in (take s.from b)) % 2 ^ 64;
      more = nat_lt 0 got;
      over = s.over;
    }

-- the buffer was b and is c: the bytes not taken stand at its start, and behind them what came
pub record Refilled (b c : List ℕ) (s r : Stream) : Type 0 where
  pub stream : r ≡ refilled b s (r.to - (s.to - s.from))
  pub front : take (s.to - s.from) c ≡ unread b s
  pub held : r.to ≤ length c

-- ---- a step

-- nothing is left to do
abbrev pub closed : Stream → Stream
closed s = record { day = s.day; from = s.from; to = s.to; lines = s.lines; more = s.more; over = true }

-- what the core did, where a is what its definition gives, and the day then stands as in r
abbrev pub stretch_of : Stream → Stream → Progress → Stretch
stretch_of s r a = record { day = r.day; taken = s.to - s.from - length a.point.input; used = length a.out }

-- the bytes taken are passed
abbrev pub passed : Stream → Stretch → Bool → Stream
passed s h over = record { day = h.day; from = s.from + h.taken; to = s.to; lines = s.lines; more = s.more; over = over }

-- what is done by what the core wants
abbrev pub Served : Want → List ℕ → List ℕ → Stream → Stream → Type 0
Served Room b c s r = (r ≡ s) × (c ≡ b)
Served Input b c s r = Refilled b c s r
Served Nothing b c s r = (r ≡ closed s) × (c ≡ b)

-- the core on the bytes not taken, then what it wants: the buffers of image, input and output were m, b, o and are k, c, u
pub record Stepped (m k b c o u : List ℕ) (s r : Stream) (a : Progress) : Type 0 where
  pub core : Advanced m k (unread b s) o u s.day (stretch_of s r a) a
  pub served : Served (want_of s.more (length o - length a.out) r.day.played.job) b c (passed s (stretch_of s r a) r.over) r
