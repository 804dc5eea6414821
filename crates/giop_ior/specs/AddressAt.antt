-- What contracts see of an address that lies in a text.
use Rattle.giop_ior.specs.declared.addresses.address.Address.{Address}
use Rattle.giop_ior.specs.declared.addresses.address_reading.AddressAt.{AddressAt}

abbrev pub address_view : AddressAt → Address
address_view a = record { major = a.major; minor = a.minor; host = a.host.now; port = a.port }
