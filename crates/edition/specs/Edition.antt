-- The edition of images that the entry points serve.
use Rattle.std.specs.Prelude.{ℕ, ◌+◌, ◌*◌}
use Rattle.image.specs.Image.{front, rest}

-- word 0 of an image
abbrev pub mark : ℕ
mark = 1

-- own words in a record
abbrev pub own_words : ℕ
own_words = 8

-- the words of the largest image, that of eight workers
abbrev pub largest : ℕ
largest = front + (rest + own_words) * 8
