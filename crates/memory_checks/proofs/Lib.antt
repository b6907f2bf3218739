mod Masters
pub mod PortNets
