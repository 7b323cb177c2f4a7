-- Which channel the ends of an `rtrb` ring are of.
use Rattle.rtrb.specs.declared.producer.Producer.{Producer}
use Rattle.rtrb.specs.declared.consumer.Consumer.{Consumer}
use Rattle.hem_wire.specs.Channel.{Channel}

module _ {T A P : Type 0} where
  abbrev pub producer_channel : Producer T A P → Channel
  producer_channel p = record { slots = p.end.names.0; words = p.end.words; place = p.end.slots; names = p.end.names.1 }

  abbrev pub consumer_channel : Consumer T A P → Channel
  consumer_channel c = record { slots = c.end.names.0; words = c.end.words; place = c.end.slots; names = c.end.names.1 }
