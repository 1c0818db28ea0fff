-- How tags compare, and when a watermark is above one. A watermark says how far the messages of a seat are known.
use Rattle.std.specs.Prelude.{Bool, true, false, nat_lt}
use Rattle.heap.specs.Keys.{lex}
use Rattle.records.specs.declared.tag.Tag.{Tag}
use Rattle.records.specs.declared.tag.Watermark.{Watermark}
use Rattle.records.specs.declared.tag.Watermark.TheVariants.{At, Top}

-- tags compare by batch, then by elapsed
abbrev pub tag_below : Tag → Tag → Bool
tag_below a b = lex a.batch b.batch (nat_lt a.elapsed b.elapsed)

-- a watermark is above a lower tag, and top is above every tag; an equal one is not above
abbrev pub above : Watermark → Tag → Bool
above (At m) g = tag_below g m
above Top g = true

-- nothing at all is to come
abbrev pub is_top : Watermark → Bool
is_top (At m) = false
is_top Top = true
