-- What a message is, and how far it lets the exchange know its seat.
use Rattle.records.specs.declared.message.Kind.{Kind}
use Rattle.records.specs.declared.message.Kind.TheVariants as kind
use Rattle.records.specs.declared.message.Message.{Message}
use Rattle.records.specs.declared.message.Message.TheVariants as message
use Rattle.records.specs.declared.tag.Watermark.{Watermark}
use Rattle.records.specs.declared.tag.Watermark.TheVariants.{At, Top}

-- a message is a trade, a beat with a tag, or an end
abbrev pub kind_of : Message → Kind
kind_of (message.Trade x) = kind.Trade
kind_of (message.Beat g) = kind.Beat
kind_of message.End = kind.End

-- the watermark that a message leaves: its tag, or top after an end
abbrev pub stamp : Message → Watermark
stamp (message.Trade x) = At x.tag
stamp (message.Beat g) = At g
stamp message.End = Top
